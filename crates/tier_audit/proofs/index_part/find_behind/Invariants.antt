use Rattle.std.proofs.Common.{◌≡◌, ◌++◌, List, ℕ, length}
use Rattle.tier_base.specs.Told.{In}
use Rattle.tier_audit.proofs.index_part.find_behind.Given as goal

-- the entry isn't among those that were passed
abbrev pub invariant-loop-mark : goal.invariant-loop-mark
invariant-loop-mark l = (front : List (ℕ × ℕ)) × (l.fn.marks ≡ front ++ l.rest) × (In l.entry front → ⊥)

abbrev pub decreases-loop-mark : goal.decreases-loop-mark
decreases-loop-mark l = length l.rest
