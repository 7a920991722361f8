use Rattle.std.proofs.Common.{arith, ap, length}
use Rattle.meta_log_file.proofs.Frames.{note_len}
use Rattle.meta_log_file.proofs.framing.frame.Goals as goal

pub overflow_cast-size : goal.overflow_cast-size
overflow_cast-size c = let is = ap length c.in_ok-body.ensures in omega (arith, is, note_len c.args.note.now c.requires)
