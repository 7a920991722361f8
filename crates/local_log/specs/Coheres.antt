-- What the batches, the ends and the line of an open log have to do with one another, over an observable disk.
use Rattle.std.specs.Prelude.{◌≡◌, ℕ, ◌+◌, ◌≤◌, ◌<◌, List, [], ◌∷◌, ◌++◌, IsOk}
use Rattle.log_terms.specs.Log.{IsConsecutive, end_from, up_to}
use Rattle.record_batch.specs.Check.{checked}
use Rattle.epoch_line.specs.Line.{cut_end}
use Rattle.segment_file.specs.Index.{placed_from}
use Rattle.segment_file.specs.Growing.{Grown}
use Rattle.log_steps.specs.Fronts.{Each}
use Rattle.local_log.specs.Stored.{end_of}
use Rattle.local_log.specs.Log.{Log}
use Rattle.local_log.specs.Reading.{IsEdge, piece_of}
use Rattle.local_log.specs.Cutting.{cut_point}

-- segments hold these batches, each where the one before it ends, the first from an offset on
abbrev pub SegmentsHold : ℕ → List Grown → List (List ℕ) → Type 0
SegmentsHold first [] batches = batches ≡ []
SegmentsHold first (segment ∷ segments) batches =
    (own : List (List ℕ)) × (rest : List (List ℕ)) × (batches ≡ own ++ rest)
    × (segment.base ≡ first) × (segment.batches ≡ placed_from 0 own) × SegmentsHold (end_of segment) segments rest

pub record Coheres {D : Type 0} (log : Log D) : Type 0 where
  pub consecutive : IsConsecutive log.local_start log.batches
  pub ends : end_from log.local_start log.batches ≡ log.end
  pub flushed_end_within : log.flushed_end ≤ log.end
  -- no entry of the line starts past the end
  pub line_within : cut_end log.line (log.end + 1) ≡ log.line
  -- a cut to an offset ends with the last batch that ends at or below it
  pub cuts : (n : ℕ) → log.local_start ≤ n
      → cut_point n log.closed log.active ≡ end_from log.local_start (up_to n log.batches)
  -- its segments hold the batches
  pub segments : SegmentsHold log.local_start (log.closed ++ log.active ∷ []) log.batches
  -- the first closed segment begins where the log does, and ends where a batch does
  pub first : (segment : Grown) (behind : List Grown) → log.closed ≡ segment ∷ behind
      → (segment.base ≡ log.local_start) × IsEdge log (end_of segment)
  pub are : Each (λ (batch : List ℕ). IsOk (checked batch)) log.batches
  -- no epoch that starts at a batch's end starts within a piece
  pub pieces : (offset : ℕ) → log.local_start ≤ offset → offset < log.end
      → Each (λ (entry : ℕ × ℕ). offset < entry.1 → IsEdge log entry.1 → piece_of log offset ≤ entry.1) log.line
