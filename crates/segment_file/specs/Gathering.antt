-- Bytes that are read as a segment, batch by batch.
use Rattle.std.specs.Prelude.{◌≡◌, ℕ, ◌+◌, ◌^◌, ◌<◌, ◌≤◌, ◌==◌, Bool, false, if◌then◌else◌, ℤ, List}
use Rattle.std.specs.Prelude.{[], ◌∷◌, ◌++◌, length, drop, Some, None, Ok, Err, IsOk}
use Rattle.std.specs.Int.{w32, w64, cast_unsigned, int_max}
use Rattle.std.specs.declared.option.Option.{Option}
use Rattle.std.specs.declared.result.Result.{Result}
use Rattle.log_terms.specs.Batch.{base_of, epoch_of, last_offset_delta_of, max_ts_of}
use Rattle.log_terms.specs.Line.{line_of}
use Rattle.log_terms.specs.Log.{joined, end_from}
use Rattle.epoch_line.specs.Line.{last_epoch}
use Rattle.record_batch.specs.declared.head.Head.{Head}
use Rattle.record_batch.specs.Head.{head_of}
use Rattle.record_batch.specs.Check.{checked}
use Rattle.segment_file.specs.declared.gathering.Gathered.{Gathered}
use Rattle.segment_file.specs.declared.refusal.ClosedRefusal.{ClosedRefusal}
use Rattle.segment_file.specs.declared.refusal.ClosedRefusal.TheVariants.{BadAt, NoMemory}
use Rattle.segment_file.specs.Walk.{size_in}
use Rattle.segment_file.specs.Segment.{IsSegment, greatest_ts}
use Rattle.segment_file.specs.Closed.{IsBadPlace}

-- the last batch's epoch, of batches that come after one of this epoch
abbrev pub epoch_after : ℕ → List (List ℕ) → ℕ
epoch_after epoch [] = epoch
epoch_after epoch (batch ∷ batches) = epoch_after (epoch_of batch) batches

-- a batch of this head may continue batches that take so many bytes and end there
pub record MayComeNext (base at end epoch : ℕ) (head : Head) : Type 0 where
  pub begins : cast_unsigned w64 head.base_offset ≡ end
  pub near : end + cast_unsigned w32 head.last_offset_delta < base + 2 ^ 31
  pub low : end + cast_unsigned w32 head.last_offset_delta < 2 ^ 62
  pub epoch_rises : epoch ≤ cast_unsigned w32 head.leader_epoch
  pub epoch_fits : cast_unsigned w32 head.leader_epoch < 2 ^ 31
  pub small : at + size_in head < 2 ^ 31

-- the batches of a segment's front come to this
pub record IsGathered (base : ℕ) (bytes : List ℕ) (front : Gathered) : Type 0 where
  pub batches : List (List ℕ)
  pub parts : bytes ≡ joined batches ++ drop front.at bytes
  pub is : IsSegment base batches
  pub inside : front.at ≤ length bytes
  pub at_is : front.at ≡ length (joined batches)
  pub end_is : front.end ≡ end_from base batches
  pub epoch_is : front.epoch ≡ epoch_after 0 batches
  pub max_ts_is : front.max_ts ≡ greatest_ts batches
  pub epochs_are : front.epochs ≡ line_of batches

-- the head gives the batch's numbers
pub record HeadDescribes (batch : List ℕ) (head : Head) : Type 0 where
  pub size : size_in head ≡ length batch
  pub base : cast_unsigned w64 head.base_offset ≡ base_of batch
  pub delta : cast_unsigned w32 head.last_offset_delta ≡ last_offset_delta_of batch
  pub epoch : cast_unsigned w32 head.leader_epoch ≡ epoch_of batch
  pub max_ts : head.max_ts ≡ max_ts_of batch

-- a batch of this head is there and continues
pub record GoesOnAt (base : ℕ) (bytes : List ℕ) (front : Gathered) (head : Head) : Type 0 where
  pub batch : List ℕ
  pub is : IsOk (checked batch)
  pub parts : drop front.at bytes ≡ batch ++ drop (front.at + size_in head) bytes
  pub is_observable : HeadDescribes batch head
  pub may : MayComeNext base front.at front.end front.epoch head
  pub inside : front.at + size_in head ≤ length bytes

-- no batch that is there continues
abbrev pub NothingAt : ℕ → List ℕ → Gathered → Type 0
NothingAt base bytes front =
    (batch more : List ℕ) → drop front.at bytes ≡ batch ++ more → IsOk (checked batch)
    → MayComeNext base front.at front.end front.epoch (head_of batch) → ⊥

-- the last entry is of this epoch
abbrev pub is_of : Option ℕ → ℕ → Bool
is_of None epoch = false
is_of (Some last) epoch = epoch == last

-- the greatest timestamp with a batch more, of batches that take so many bytes
abbrev pub later_ts : ℕ → ℤ → ℤ → ℤ
later_ts at ts own = if at == 0 then own else int_max ts own

-- an epoch that a batch of this base offset begins, unless it has begun
abbrev pub with_epoch : List (ℕ × ℕ) → ℕ → ℕ → List (ℕ × ℕ)
with_epoch line epoch start = if is_of (last_epoch line) epoch then line else line ++ (epoch, start) ∷ []

-- with the batch of a head more
abbrev pub gained : Gathered → Head → Gathered
gained front head = record {
  at = front.at + size_in head;
  end = front.end + cast_unsigned w32 head.last_offset_delta + 1;
  epoch = cast_unsigned w32 head.leader_epoch;
  max_ts = later_ts front.at front.max_ts head.max_ts;
  epochs = with_epoch front.epochs (cast_unsigned w32 head.leader_epoch) front.end;
}

-- what reading all of the bytes comes to
abbrev pub Gathers : ℕ → List ℕ → Result Gathered ClosedRefusal → Type 0
Gathers base bytes (Ok front) = IsGathered base bytes front × (0 < front.at) × (front.at ≡ length bytes)
Gathers base bytes (Err (BadAt at)) = IsBadPlace base bytes at
Gathers base bytes (Err NoMemory) = Unit {0}
