-- That the part of a segment's log which its offset index shows to be needed holds the run.
--
-- Where the bound of the run and the end of the piece are ends of the segment's batches, a run that has begun, or is
-- still to begin, finds its next batch in the bytes that are read: there is no place where none is.
use Rattle.std.specs.Prelude.{◌≡◌, ℕ, ◌<◌, ◌≤◌, min, List, take, drop}
use mathlib.Core.List.{IsPrefix}
use Rattle.log_terms.specs.Log.{joined, end_from}
use Rattle.segment_file.specs.Index.{placed_from, index_of}
use Rattle.segment_file.specs.Run.{IsBadAt}
use Rattle.segment_file.specs.Segment.{IsSegment}
use Rattle.tier_fetch.specs.declared.turn.Span.{Span}
use Rattle.tier_fetch.specs.Span.{span_of}

-- an offset is where one of the first batches ends
abbrev pub EndsIn : ℕ → List (List ℕ) → ℕ → Type 0
EndsIn base batches end = (front : List (List ℕ)) × IsPrefix front batches × (end_from base front ≡ end)

-- the bytes of a span
abbrev pub read_in : List (List ℕ) → Span → List ℕ
read_in batches span = take span.most (drop span.from (joined batches))

-- no place of them is bad
abbrev pub SpansHoldRuns : Type 0
SpansHoldRuns = (base interval : ℕ) (batches : List (List ℕ)) (offset limit mark end at : ℕ) → IsSegment base batches
    → base ≤ offset
    → offset < min mark end → EndsIn base batches (min mark end) → EndsIn base batches end
    → IsBadAt (read_in batches (span_of (index_of base interval (placed_from 0 batches)) offset limit end)) offset limit
    (min mark end) at
    → ⊥
