-- A closed log segment, and the first place where bytes are none.
use Rattle.std.specs.Prelude.{◌≡◌, ◌≢◌, ℕ, ◌+◌, ℤ, List, [], ◌∷◌, ◌++◌, length, Ok, Err}
use Rattle.std.specs.declared.result.Result.{Result}
use Rattle.log_terms.specs.Line.{line_of}
use Rattle.log_terms.specs.Log.{joined, end_from}
use Rattle.sparse_index.specs.Offsets.{OffsetTable}
use Rattle.sparse_index.specs.Times.{TimeTable}
use Rattle.segment_file.specs.declared.refusal.ClosedRefusal.{ClosedRefusal}
use Rattle.segment_file.specs.declared.refusal.ClosedRefusal.TheVariants.{BadAt, NoMemory}
use Rattle.segment_file.specs.Segment.{IsSegment, greatest_ts}
use Rattle.segment_file.specs.Index.{placed_from, index_of, time_index_of}

-- a closed segment: its first and last offset, its greatest timestamp, its bytes, its leader epochs
pub record ClosedSegment : Type 0 where
  pub base : ℕ
  pub last : ℕ
  pub max_ts : ℤ
  pub bytes : List ℕ
  pub epochs : List (ℕ × ℕ)

-- the segment of these parts
abbrev pub whole_of : ℕ → ℕ → ℤ → List ℕ → List (ℕ × ℕ) → ClosedSegment
whole_of base last max_ts bytes epochs =
    record { base = base; last = last; max_ts = max_ts; bytes = bytes; epochs = epochs }

-- what a closed segment keeps
pub record IsWholeSegment (segment : ClosedSegment) : Type 0 where
  pub batches : List (List ℕ)
  pub some : batches ≢ []
  pub bytes_are : segment.bytes ≡ joined batches
  pub is : IsSegment segment.base batches
  pub last_is : segment.last + 1 ≡ end_from segment.base batches
  pub max_ts_is : segment.max_ts ≡ greatest_ts batches
  pub epochs_are : segment.epochs ≡ line_of batches

-- the first place where no batch continues, or the bytes end before the first batch
pub record IsBadPlace (base : ℕ) (bytes : List ℕ) (at : ℕ) : Type 0 where
  pub batches : List (List ℕ)
  pub rest : List ℕ
  pub parts : bytes ≡ joined batches ++ rest
  pub place : at ≡ length (joined batches)
  pub is : IsSegment base batches
  pub nothing : (batch more : List ℕ) → rest ≡ batch ++ more → IsSegment base (batches ++ batch ∷ []) → ⊥
  pub unread : (others : List (List ℕ)) → others ≢ [] → IsSegment base others → bytes ≢ joined others

-- what the reader answers
abbrev pub ReadsSegment : ℕ → List ℕ → Result ClosedSegment ClosedRefusal → Type 0
ReadsSegment base bytes (Ok segment) = (segment.base ≡ base) × (segment.bytes ≡ bytes)
ReadsSegment base bytes (Err (BadAt at)) = IsBadPlace base bytes at
ReadsSegment base bytes (Err NoMemory) = Unit {0}

-- both indexes of these bytes, read as any batches
abbrev pub AreIndexes : ℕ → List ℕ → ℕ → OffsetTable → TimeTable → Type 0
AreIndexes base bytes interval offsets times =
    (batches : List (List ℕ)) → IsSegment base batches → bytes ≡ joined batches
    → (offsets ≡ index_of base interval (placed_from 0 batches))
    × (times ≡ time_index_of base interval (placed_from 0 batches))
