use Rattle.std.proofs.Common.{◌≡◌, ℕ, length}
use Rattle.remote_view.specs.Storing.{stair_on, replaced, HaveRoom}
use Rattle.remote_view.proofs.stairs.Stairs.replace_all.Given as goal

-- the stairs so far and those to come make all of them, and there is room for these
pub record IsUnderway (l : goal.Live-loop-stair) : Type 0 where
  pub all : (e : ℕ) → replaced l.stairs e (stair_on l.self e) ≡ replaced l.initial.stairs e (stair_on l.initial.self e)
  pub room : HaveRoom l.self l.stairs

abbrev pub invariant-loop-stair : goal.invariant-loop-stair
invariant-loop-stair l = IsUnderway l

abbrev pub decreases-loop-stair : goal.decreases-loop-stair
decreases-loop-stair l = length l.stairs
