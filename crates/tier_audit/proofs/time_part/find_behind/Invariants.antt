use Rattle.std.proofs.Common.{◌≡◌, ◌++◌, List, ℕ, ℤ, length}
use Rattle.tier_base.specs.Told.{In}
use Rattle.tier_audit.proofs.time_part.find_behind.Given as goal

-- the moment isn't among those that were passed
abbrev pub invariant-loop-height : goal.invariant-loop-height
invariant-loop-height l = (front : List (ℤ × ℕ)) × (l.fn.heights ≡ front ++ l.rest) × (In l.moment front → ⊥)

abbrev pub decreases-loop-height : goal.decreases-loop-height
decreases-loop-height l = length l.rest
