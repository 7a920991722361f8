-- A cursor that passes over closed segments.
use Rattle.std.proofs.Common.{◌≡◌, sym, subst, ℕ, ◌≤◌, ℤ, List, arith}
use Rattle.segment_file.specs.Growing.{Grown}
use Rattle.broker_log.specs.Seen.{LogState, Up, Down, Away, WhileUp}
use Rattle.time_find.specs.declared.turn.SearchStep.TheVariants.{Seek}
use Rattle.time_find.specs.declared.turn.SearchStep.{SearchStep}
use Rattle.plain_log.specs.declared.turn.Turn.{Turn}
use Rattle.plain_log.specs.declared.turn.Turn.TheVariants.{Goes, Ends}
use Rattle.time_find.specs.Passing.{passed_over}
use Rattle.time_find.specs.Turns.{SearchContinues}
use Rattle.time_find.proofs.Over.{passed_up}

-- it doesn't fall
pub comes_up : (ts : ℤ) (cursor at : ℕ) (closed : List Grown) → at ≡ passed_over ts cursor closed → cursor ≤ at
comes_up ts cursor at closed is = subst (λ n. cursor ≤ n) (sym is) (passed_up ts cursor closed)

-- so the local log begins at or below where it comes
pub starts_below : {D : Type 0} (kept : LogState D) (cursor at : ℕ) → WhileUp kept (λ log. log.local_start ≤ cursor) → cursor ≤ at
    → WhileUp kept (λ log. log.local_start ≤ at)
starts_below (Up log) cursor at low up = omega (arith, low, up)
starts_below (Down settings disk) cursor at low up = low
starts_below Away cursor at low up = low

-- and a search that continues from there continues from the cursor
pub goes_from : (cursor at : ℕ) (turn : Turn (ℕ × SearchStep)) → cursor ≤ at → SearchContinues at turn → SearchContinues cursor turn
goes_from cursor at (Goes (end, Seek)) up h = omega (arith, up, h)
goes_from cursor at (Goes (end, next)) up h = (omega (arith, up, h.0), h.1)
goes_from cursor at (Ends answer) up h = tt
