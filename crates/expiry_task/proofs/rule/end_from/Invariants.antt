use Rattle.std.proofs.Common.{◌≡◌, drop}
use Rattle.expiry_task.specs.Rule.{end_from}
use Rattle.expiry_task.proofs.rule.end_from.Given as goal

abbrev pub invariant-loop-piece : goal.invariant-loop-piece
invariant-loop-piece l = end_from l.end (drop l.piece-index l.pieces) ≡ end_from l.fn.start l.pieces
