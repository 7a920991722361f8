-- A run on its way into a segment.
use Rattle.std.specs.Prelude.{◌≡◌, ℕ, ◌+◌, ◌^◌, ◌≤◌, List, ◌++◌, length, Option, Some, None}
use Rattle.std.specs.Int.{w32, w64, cast_unsigned}
use Rattle.log_terms.specs.Batch.{base_of, last_of, epoch_of}
use Rattle.log_terms.specs.Log.{joined}
use Rattle.record_batch.specs.declared.head.Head.{Head}
use Rattle.segment_file.specs.Walk.{size_in}
use Rattle.segment_file.specs.declared.placed.Placed.{Placed}
use Rattle.segment_file.specs.Index.{placed_from}
use Rattle.segment_file.specs.Growing.{Grown, AreBatchesLaid}
use Rattle.local_log.specs.declared.run.Asked.{Asked}
use Rattle.local_log.specs.Stored.{size_of, end_of}
use Rattle.local_log.specs.Listing.{IsLaidOut}
use Rattle.local_log.specs.Run.{IsRunFor, taking, lined}

-- what a head says of its batch
abbrev pub head_asks : Head → Asked
head_asks head = record {
  base = cast_unsigned w64 head.base_offset;
  last = cast_unsigned w64 head.base_offset + cast_unsigned w32 head.last_offset_delta;
  size = size_in head;
  epoch = cast_unsigned w32 head.leader_epoch;
}

-- the batch has these numbers
pub record AsksOf (batch : List ℕ) (asked : Asked) : Type 0 where
  pub base : asked.base ≡ base_of batch
  pub last : asked.last ≡ last_of batch
  pub size : asked.size ≡ length batch
  pub epoch : asked.epoch ≡ epoch_of batch

-- a line, or the one that takes its place
abbrev pub line_or : List (ℕ × ℕ) → Option (List (ℕ × ℕ)) → List (ℕ × ℕ)
line_or line None = line
line_or line (Some newer) = newer

-- the segment with these batches more
abbrev pub grown_by : Grown → List (List ℕ) → Grown
grown_by segment batches = record segment { batches = segment.batches ++ placed_from (size_of segment) batches }

-- the front of a run is in the segment, and the line is that of the front
pub record IsGathering (old : Grown) (line : List (ℕ × ℕ)) (run : List ℕ) (most at : ℕ) (segment : Grown)
    (newer : Option (List (ℕ × ℕ))) : Type 0 where
  pub is : IsRunFor (end_of old) line run
  pub front : List (List ℕ)
  pub rest : List (List ℕ)
  pub parts : is.batches ≡ front ++ rest
  pub taken : taking most old.base (size_of old) is.batches ≡ front ++ taking most old.base (size_of segment) rest
  pub place : at ≡ length (joined front)
  pub segment_is : segment ≡ grown_by old front
  pub line_is : line_or line newer ≡ lined line front

-- as many batches of a run as fit a segment are in it
pub record IsTakenIn (old new : Grown) (line : List (ℕ × ℕ)) (run : List ℕ) (most : ℕ)
    (taken : ℕ × Option (List (ℕ × ℕ))) : Type 0 where
  pub is : IsRunFor (end_of old) line run
  pub segment_is : new ≡ grown_by old (taking most old.base (size_of old) is.batches)
  pub len_is : taken.0 ≡ length (joined (taking most old.base (size_of old) is.batches))
  pub line_is : line_or line taken.1 ≡ lined line (taking most old.base (size_of old) is.batches)
  pub laid : IsLaidOut new
  pub low : end_of new ≤ 2 ^ 62

-- the segment with batches more, which follow
pub record HasFront (old new : Grown) : Type 0 where
  pub rest : List Placed
  pub segment_is : new ≡ record old { batches = old.batches ++ rest }
  pub laid : AreBatchesLaid old.base 0 (old.batches ++ rest)
