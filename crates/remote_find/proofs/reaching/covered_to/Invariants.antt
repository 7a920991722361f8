use Rattle.std.proofs.Common.{◌≤◌, ◌<◌, ◌-◌, ℕ}
use Rattle.std.specs.Prelude.{IsSome}
use Rattle.remote_find.specs.Pieces.{piece_at}
use Rattle.remote_find.proofs.reaching.covered_to.Given as goal

-- each offset up to the place has a piece
pub record IsUnderway (l : goal.Live-loop-place) : Type 0 where
  pub from : l.at ≤ l.place
  pub each : (o : ℕ) → l.at ≤ o → o < l.place → IsSome (piece_at l.view.entries l.line l.log_end o)

abbrev pub invariant-loop-place : goal.invariant-loop-place
invariant-loop-place l = IsUnderway l

abbrev pub decreases-loop-place : goal.decreases-loop-place
decreases-loop-place l = l.log_end - l.place
