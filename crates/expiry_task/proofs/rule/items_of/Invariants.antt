use Rattle.std.proofs.Common.{◌≡◌, ◌++◌, drop}
use Rattle.expiry_task.specs.Rule.{items_of}
use Rattle.expiry_task.proofs.rule.items_of.Given as goal

-- the items so far, and those of the pieces that are left, are all of them
abbrev pub invariant-loop-piece : goal.invariant-loop-piece
invariant-loop-piece l = l.items.items ++ items_of l.view.entries (drop l.piece-index l.pieces) ≡ items_of l.view.entries l.pieces
