use Rattle.std.proofs.Common.{◌≡◌, ◌++◌, drop}
use Rattle.std.specs.Prelude.{map}
use Rattle.expiry_task.proofs.rule.ends_of.Given as goal

-- the ends so far, and those of the pieces that are left, are all of them
abbrev pub invariant-loop-piece : goal.invariant-loop-piece
invariant-loop-piece l = l.ends.items ++ map (λ piece. piece.to) (drop l.piece-index l.pieces) ≡ map (λ piece. piece.to) l.pieces
