use Rattle.std.proofs.Common.{◌-◌, vec_len}
use Rattle.dump_lines.specs.Dump.{HasAppended}
use Rattle.dump_lines.proofs.window.read_up_to.Given as goal

abbrev pub invariant-loop-source : goal.invariant-loop-source
invariant-loop-source g l = HasAppended (g.R.Source.left l.fn.source) (g.R.Source.left l.source) l.fn.bytes.items l.bytes.items

abbrev pub decreases-loop-source : goal.decreases-loop-source
decreases-loop-source g l = 2097152 - vec_len l.bytes
