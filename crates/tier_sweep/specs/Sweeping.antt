-- What a sweep of a tier at rest reports, takes away and counts.
--
-- In this order: for each copy that is in progress the event that its deletion starts; then each object goes whose id's
-- copy isn't finished; then for each copy and deletion that was in progress the event that its deletion is finished. An
-- event has its entry's broker and time, since no broker sweeps.
--
--   form                    says
--   IsSwept old new n       what a sweep leaves that took n objects away
--   IsUnderSweep old new    what it may have come to before it was refused
--   LeavesUnder s m s' m'   so is what a power cut afterwards may leave of the events, from what it might leave before
--
-- Source: KIP-405, where a segment's metadata is updated as delete-started, its objects are deleted, and the metadata
-- is updated as delete-finished.
use Rattle.std.specs.Prelude.{◌≡◌, ◌⊎◌, ℕ, Bool, true, false, not, if◌then◌else◌}
use Rattle.std.specs.Prelude.{List, ◌++◌, map, filter, length, None, Err}
use Rattle.std.specs.declared.result.Result.{Result}
use Rattle.tier_base.specs.declared.plain.State.{State}
use Rattle.tier_base.specs.declared.plain.State.TheVariants.{CopyStarted, DeleteStarted, DeleteFinished}
use Rattle.tier_base.specs.declared.object_key.ObjectKey.{ObjectKey}
use Rattle.tier_base.specs.Counts.{counted, Rose}
use Rattle.tier_base.specs.Told.{NamesAllHeld}
use Rattle.segment_meta.specs.declared.note.Entry.{Entry}
use Rattle.segment_meta.specs.declared.note.Note.{Note}
use Rattle.segment_meta.specs.declared.note.Note.TheVariants.{Update}
use Rattle.segment_meta.specs.Rules.{bare_custom}
use Rattle.object_store.specs.Content as store
use Rattle.meta_log.specs.Content as meta
use Rattle.remote_view.specs.Fold.{fold}
use Rattle.tier_sweep.specs.declared.refusal.SweepRefusal.{SweepRefusal}
use Rattle.tier_sweep.specs.declared.refusal.SweepRefusal.TheVariants.{StoreFault, MetaFault}
use Rattle.tier_sweep.specs.Rest.{is_under_way, stays}

-- a copy is in progress
abbrev pub is_copying : State → Bool
is_copying CopyStarted = true
is_copying state = false

-- the event that an entry's segment has another state
abbrev pub note_of : State → Entry → Note
note_of state entry = Update entry.id entry.broker entry.event_ts state (bare_custom entry.packed)

-- the events of another state, for the entries whose own state passes, in order
abbrev pub notes_of : (State → Bool) → State → List Entry → List Note
notes_of passes state entries = map (note_of state) (filter (λ entry. passes entry.state) entries)

-- the events that deletions start, of the copies in progress
abbrev pub starts_of : List Entry → List Note
starts_of entries = notes_of is_copying DeleteStarted entries

-- the events that deletions are finished, of the copies and deletions in progress
abbrev pub ends_of : List Entry → List Note
ends_of entries = notes_of is_under_way DeleteFinished entries

-- the objects that stay
abbrev pub kept_of : List Entry → store.Objects → store.Objects
kept_of entries objects key = if stays entries key.id then objects key else None

-- an entry as a sweep leaves it
abbrev pub rested : Entry → Entry
rested entry = if is_under_way entry.state then record entry { state = DeleteFinished } else entry

-- how many of these keys go
abbrev pub count_swept : List Entry → List ObjectKey → ℕ
count_swept entries keys = length (filter (λ key. not (stays entries key.id)) keys)

-- some objects that don't stay are gone, and no other
abbrev pub MayRemove : List Entry → store.Objects → store.Objects → Type 0
MayRemove entries old new =
    (key : ObjectKey) → (new key ≡ old key) ⊎ ((stays entries key.id ≡ false) × (new key ≡ None))

-- some of these events are reported, from the first on
pub record IsTelling (notes old new : List Note) : Type 0 where
  pub told : List Note
  pub rest : List Note
  pub are : told ++ rest ≡ notes
  pub now : new ≡ old ++ told

-- a tier: the objects of its store, and the events of its metadata log
pub record SweptTier : Type 0 where
  pub objects : store.Objects
  pub notes : List Note

-- the tier of what a store reports and of these events
abbrev pub tier_with : store.Content → List Note → SweptTier
tier_with store notes = record { objects = store.objects; notes = notes }

-- the tier that a store and a metadata log report
abbrev pub tier_of : store.Content → meta.Content → SweptTier
tier_of store log = tier_with store log.notes

-- a sweep's end
pub record IsSwept (old new : SweptTier) (swept : ℕ) : Type 0 where
  pub objects : (key : ObjectKey) → new.objects key ≡ kept_of (fold old.notes) old.objects key
  pub notes : new.notes ≡ old.notes ++ starts_of (fold old.notes) ++ ends_of (fold old.notes)
  pub keys : List ObjectKey
  pub named : NamesAllHeld old.objects keys
  pub count : swept ≡ count_swept (fold old.notes) keys

-- some of the starts are reported, and no object has gone
pub record IsStarting (old new : SweptTier) : Type 0 where
  pub notes : IsTelling (starts_of (fold old.notes)) old.notes new.notes
  pub objects : (key : ObjectKey) → new.objects key ≡ old.objects key

-- all of them are, and some objects have gone
pub record IsTaking (old new : SweptTier) : Type 0 where
  pub notes : new.notes ≡ old.notes ++ starts_of (fold old.notes)
  pub objects : MayRemove (fold old.notes) old.objects new.objects

-- all objects have gone, and some of the ends are reported
pub record IsEnding (old new : SweptTier) : Type 0 where
  pub notes : IsTelling (ends_of (fold old.notes)) (old.notes ++ starts_of (fold old.notes)) new.notes
  pub objects : (key : ObjectKey) → new.objects key ≡ kept_of (fold old.notes) old.objects key

-- what a sweep may have come to before it was refused
pub data IsUnderSweep (old new : SweptTier) : Type 0 where
  Starting : IsStarting old new → IsUnderSweep old new
  Taking : IsTaking old new → IsUnderSweep old new
  Ending : IsEnding old new → IsUnderSweep old new

-- each list of events that a power cut may leave afterwards is under the sweep from one that it might have left before
abbrev pub LeavesUnder : store.Content → meta.Content → store.Content → meta.Content → Type 0
LeavesUnder store log store_now log_now = (notes : List Note) → meta.Left log_now notes
    → (before : List Note) × meta.Left log before × IsUnderSweep (tier_with store before) (tier_with store_now notes)

-- a refusal for a fault has its cause: that device's count of faults has risen
abbrev pub SweepHasCause : {T : Type 0} → Result T SweepRefusal → ℕ → ℕ → ℕ → ℕ → Type 0
SweepHasCause (Err StoreFault) store store_now log log_now = Rose store store_now
SweepHasCause (Err MetaFault) store store_now log log_now = Rose log log_now
SweepHasCause result store store_now log log_now = Unit {0}

-- and no other answer hides a fault: the counts of faults are as before, but that of the device whose fault is
-- reported, which has one more
abbrev pub IsQuiet : {T : Type 0} → Result T SweepRefusal → ℕ → ℕ → ℕ → ℕ → Type 0
IsQuiet (Err StoreFault) store store_now log log_now = (store_now ≡ counted store 1) × (log_now ≡ log)
IsQuiet (Err MetaFault) store store_now log log_now = (store_now ≡ store) × (log_now ≡ counted log 1)
IsQuiet result store store_now log log_now = (store_now ≡ store) × (log_now ≡ log)
