-- How far a reader of a run needs a segment's bytes.
--
-- A run has the batch that holds an offset, and further ones that end at or below a bound and a position. Where these
-- end below the bound, the next batch would pass the position. Its head is needed too, since it reports so.
use Rattle.std.specs.Prelude.{ℕ, ◌+◌, ◌&&◌, nat_lt, nat_le, if◌then◌else◌, List, [], ◌∷◌, length, drop}
use Rattle.segment_file.specs.declared.placed.Placed.{Placed}
use Rattle.segment_file.specs.Growing.{size_after, ending_by}

-- the batches in front that end at or below a bound and a position
abbrev pub fitting : ℕ → ℕ → List Placed → List Placed
fitting bound top [] = []
fitting bound top (batch ∷ batches) =
    if nat_lt batch.last bound && nat_le batch.to top then batch ∷ fitting bound top batches else []

-- up to where a run is needed that ends at an offset and a position by now, with these batches after it
abbrev pub run_reach : ℕ → ℕ → ℕ → ℕ → List Placed → ℕ
run_reach bound top end at [] = at
run_reach bound top end at (batch ∷ batches) =
    if nat_lt batch.last bound && nat_le batch.to top then run_reach bound top (batch.last + 1) batch.to batches
    else if nat_lt end bound then at + 61
    else at

-- the same of the batches from a run's first one on, which begins at a position
abbrev pub reach_from : ℕ → ℕ → ℕ → List Placed → ℕ
reach_from bound top at [] = at
reach_from bound top at (batch ∷ batches) = run_reach bound top (batch.last + 1) batch.to batches

-- the same of a segment's batches, where the run is that at an offset
abbrev pub reach_at : ℕ → ℕ → ℕ → List Placed → ℕ
reach_at bound top offset batches =
    reach_from bound top (size_after 0 (ending_by offset batches)) (drop (length (ending_by offset batches)) batches)
