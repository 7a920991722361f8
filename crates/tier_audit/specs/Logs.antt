-- A copy's log on its way, batch by batch, beside the copy's entry.
use Rattle.std.specs.Prelude.{◌≡◌, ◌≢◌, ℕ, ◌+◌, ◌^◌, ◌<◌, ◌≤◌, ◌≤ℤ◌, List, [], ◌∷◌}
use Rattle.std.specs.Prelude.{◌++◌, length, take, drop, Option, Some, None, IsOk}
use Rattle.std.specs.Int.{w32, w64, cast_unsigned}
use mathlib.Core.List.{IsPrefix}
use Rattle.log_terms.specs.Batch.{base_of, epoch_of, last_of, max_ts_of}
use Rattle.log_terms.specs.Line.{line_of, epoch_at}
use Rattle.log_terms.specs.Log.{joined, end_from}
use Rattle.record_batch.specs.declared.head.Head.{Head}
use Rattle.record_batch.specs.Check.{checked}
use Rattle.segment_file.specs.declared.placed.Placed.{Placed}
use Rattle.segment_file.specs.Walk.{size_in}
use Rattle.segment_file.specs.Segment.{greatest_ts}
use Rattle.segment_file.specs.Gathering.{with_epoch, later_ts}
use Rattle.segment_file.specs.Index.{placed, placed_from}
use Rattle.segment_meta.specs.declared.note.Entry.{Entry}
use Rattle.tier_audit.specs.declared.log_part.Front.{Front}
use Rattle.tier_audit.specs.declared.log_part.LogPart.{LogPart}
use Rattle.tier_audit.specs.declared.log_part.LogPart.TheVariants.{Right, Wrong}
use Rattle.tier_audit.specs.Whole.{Describes}
use Rattle.tier_audit.specs.Flaws.{IsFirstBad, MayBeginLog}

-- so many of a map's entries are the epochs of batches; none where these don't begin the map entry by entry
abbrev pub AreBegun : List (ℕ × ℕ) → List (List ℕ) → Option ℕ → Type 0
AreBegun map batches None = IsPrefix (line_of batches) map → ⊥
AreBegun map batches (Some snapshot) = (line_of batches ≡ take snapshot map) × (snapshot ≤ length map)

-- and with a batch more, of this epoch at this base
abbrev pub BeginsMore : List (ℕ × ℕ) → Option ℕ → ℕ → ℕ → Option ℕ → Type 0
BeginsMore map None epoch base more = more ≡ None
BeginsMore map (Some snapshot) epoch base None = IsPrefix (with_epoch (take snapshot map) epoch base) map → ⊥
BeginsMore map (Some snapshot) epoch base (Some more) =
    (with_epoch (take snapshot map) epoch base ≡ take more map) × (more ≤ length map)

-- the batches of a log's front come to this, and may begin the log
pub record IsLogFront (entry : Entry) (bytes : List ℕ) (front : Front) : Type 0 where
  pub batches : List (List ℕ)
  pub parts : bytes ≡ joined batches ++ drop front.at bytes
  pub inside : front.at ≤ length bytes
  pub begins : MayBeginLog entry batches
  pub at_is : front.at ≡ length (joined batches)
  pub end_is : front.end ≡ end_from entry.start batches
  pub max_ts_is : front.max_ts ≡ greatest_ts batches
  pub placed_are : front.batches.items ≡ placed_from 0 batches
  pub begun_are : AreBegun entry.map batches front.snapshot

-- the batch of a head begins where the front ends, and goes past nothing
pub record IsNextHead (entry : Entry) (front : Front) (head : Head) : Type 0 where
  pub begins : cast_unsigned w64 head.base_offset ≡ front.end
  pub within : front.end + cast_unsigned w32 head.last_offset_delta ≤ entry.end
  pub near : front.end + cast_unsigned w32 head.last_offset_delta < entry.start + 2 ^ 31
  pub small : front.at + size_in head < 2 ^ 31
  pub times : head.max_ts ≤ℤ entry.max_ts

-- a batch may come after the front
pub record MayCome (entry : Entry) (front : Front) (batch : List ℕ) : Type 0 where
  pub begins : base_of batch ≡ front.end
  pub within : last_of batch ≤ entry.end
  pub near : last_of batch < entry.start + 2 ^ 31
  pub small : front.at + length batch < 2 ^ 31
  pub times : max_ts_of batch ≤ℤ entry.max_ts
  pub epochs : epoch_at entry.map (base_of batch) ≡ Some (epoch_of batch)

-- such a batch follows the front: how it is placed, and how many epochs have begun with it
pub record ComesNext (entry : Entry) (bytes : List ℕ) (front : Front) (next : Placed × Option ℕ) : Type 0 where
  pub batch : List ℕ
  pub is : IsOk (checked batch)
  pub parts : drop front.at bytes ≡ batch ++ drop (front.at + length batch) bytes
  pub inside : front.at + length batch ≤ length bytes
  pub may : MayCome entry front batch
  pub placed_is : next.0 ≡ placed front.at batch
  pub begun_is : BeginsMore entry.map front.snapshot (epoch_of batch) (base_of batch) next.1

-- none does
abbrev pub NoBatchComes : Entry → List ℕ → Front → Type 0
NoBatchComes entry bytes front =
    (batch more : List ℕ) → drop front.at bytes ≡ batch ++ more → IsOk (checked batch) → MayCome entry front batch → ⊥

-- a batch was added
pub record FrontGains (old : Front) (next : Placed × Option ℕ) (new : Front) : Type 0 where
  pub at_is : new.at ≡ next.0.to
  pub end_is : new.end ≡ next.0.last + 1
  pub begun_is : new.snapshot ≡ next.1
  pub max_ts_is : new.max_ts ≡ later_ts old.at old.max_ts next.0.max_ts
  pub batches_are : new.batches.items ≡ old.batches.items ++ next.0 ∷ []

-- a front that goes no further
pub record IsFrontStopped (entry : Entry) (bytes : List ℕ) (front : Front) : Type 0 where
  pub is : IsLogFront entry bytes front
  pub stops : (batch more : List ℕ) → bytes ≡ joined (is.batches ++ batch ∷ []) ++ more
      → MayBeginLog entry (is.batches ++ batch ∷ []) → ⊥

-- the batches come to all that the entry says, in so many bytes
pub record IsAll (entry : Entry) (size : ℕ) (front : Front) : Type 0 where
  pub some : 0 < front.at
  pub whole : front.at ≡ size
  pub size_is : front.at ≡ entry.size
  pub end_is : front.end ≡ entry.end + 1
  pub begun_is : front.snapshot ≡ Some (length entry.map)
  pub max_ts_is : front.max_ts ≡ entry.max_ts

-- the batches of a right log, as they are in it
pub record HasBatches (entry : Entry) (bytes : List ℕ) (found : List Placed) : Type 0 where
  pub batches : List (List ℕ)
  pub describes : Describes entry batches
  pub bytes_are : bytes ≡ joined batches
  pub found_are : found ≡ placed_from 0 batches

-- what is found of a log
abbrev pub AuditsLog : Entry → List ℕ → LogPart → Type 0
AuditsLog entry bytes (Right found) = HasBatches entry bytes found.items
AuditsLog entry bytes (Wrong at) =
    ((batches : List (List ℕ)) → Describes entry batches → bytes ≢ joined batches)
    × IsFirstBad joined (MayBeginLog entry) bytes at
