-- What holds of copies, finished or in progress.
--
--   Finished   the objects of each finished copy exist
--   Named      each object has an entry that names it
--   Copies     a copy on the desk is where its entry and its objects say
--
-- Another broker's deletion may overtake a copy at any turn. So what a copy has put exists only while its entry's state
-- is still that it started.
--
-- Source: KIP-405, where a copy is recorded as started before its objects are put, and as finished after the last.
use Rattle.std.specs.Prelude.{◌≡◌, ◌≢◌, ℕ, ◌<◌, Bool, true, false, List, Some, None, length, slice_get}
use Rattle.tier_base.specs.declared.plain.State.{State}
use Rattle.tier_base.specs.declared.plain.State.TheVariants.{CopyStarted, CopyFinished, DeleteStarted, DeleteFinished}
use Rattle.tier_base.specs.declared.names.SegmentId.{SegmentId}
use Rattle.tier_base.specs.declared.object_key.ObjectKey.{ObjectKey}
use Rattle.segment_meta.specs.declared.note.Entry.{Entry}
use Rattle.segment_bundle.specs.Parts.{part_in}
use Rattle.object_store.specs.Content.{Objects}
use Rattle.plain_log.specs.declared.state.Path.{Path}
use Rattle.remote_view.specs.Fold.{entry_of}
use Rattle.copy_task.specs.Copying.{Copied, keys}
use Rattle.copy_task.specs.declared.turn.CopyStep.{CopyStep as CopyNext}
use Rattle.copy_task.specs.declared.turn.CopyStep.TheVariants as copying
use Rattle.tier_safe.specs.Scene.{TierTask, Copies}
use Rattle.tier_safe.specs.Lineage.{IsStoredWhole, IsSource}
use Rattle.tier_safe.specs.Views.{IsNamed}

-- finished copies, and objects

-- the objects of each finished copy exist
abbrev pub FinishedStand : Objects → List Path → List Entry → Type 0
FinishedStand objects paths entries =
    (id : SegmentId) (entry : Entry) → entry_of id entries ≡ Some entry → entry.state ≡ CopyFinished
    → IsStoredWhole objects paths entry

-- each object has an entry
abbrev pub ObjectsNamed : Objects → List Entry → Type 0
ObjectsNamed objects entries =
    (key : ObjectKey) (bytes : List ℕ) → objects key ≡ Some bytes → IsNamed entries key.id

-- copies on the desk

-- the entry is the one that the copy reported of
pub record IsEntryFor (copy : Copied) (entry : Entry) : Type 0 where
  pub partition : entry.partition ≡ copy.partition
  pub start : entry.start ≡ copy.segment.base
  pub end : entry.end ≡ copy.segment.last
  pub map : entry.map ≡ copy.segment.epochs
  pub size : entry.size ≡ length copy.segment.bytes
  pub max_ts : entry.max_ts ≡ copy.segment.max_ts
  pub packed : entry.packed ≡ copy.packed

-- the part under a key is in the store
abbrev pub IsPartPut : Objects → Copied → ObjectKey → Type 0
IsPartPut objects copy key = objects key ≡ Some (part_in copy.parts key.part)

-- the parts under the first so many keys exist
abbrev pub HasPutBefore : Objects → Copied → ℕ → Type 0
HasPutBefore objects copy n =
    (i : ℕ) (key : ObjectKey) → slice_get (keys copy) i ≡ Some key → i < n → IsPartPut objects copy key

-- all parts exist
abbrev pub HasPutAll : Objects → Copied → Type 0
HasPutAll objects copy = (i : ℕ) (key : ObjectKey) → slice_get (keys copy) i ≡ Some key → IsPartPut objects copy key

-- the deletion has started
abbrev pub is_deleted : State → Bool
is_deleted DeleteStarted = true
is_deleted DeleteFinished = true
is_deleted state = false

-- the copy has its entry, in such a state
pub record HasEntry (entries : List Entry) (copy : Copied) (P : State → Type 0) : Type 0 where
  pub entry : Entry
  pub there : entry_of copy.id entries ≡ Some entry
  pub is : IsEntryFor copy entry
  pub state : P entry.state

-- what its entry and its objects say, by what the copy does next
abbrev pub CopyAt : Objects → List Entry → Copied → CopyNext → Type 0
CopyAt objects entries copy copying.Start = entry_of copy.id entries ≡ None
CopyAt objects entries copy (copying.Put n) =
    HasEntry entries copy (λ state. (state ≢ CopyFinished) × (state ≡ CopyStarted → HasPutBefore objects copy n))
CopyAt objects entries copy copying.Finish =
    HasEntry entries copy (λ state. (state ≢ CopyFinished) × (state ≡ CopyStarted → HasPutAll objects copy))
CopyAt objects entries copy copying.Check = HasEntry entries copy (λ state. state ≢ CopyStarted)
CopyAt objects entries copy (copying.Delete n) = HasEntry entries copy (λ now. is_deleted now ≡ true)

-- the object that a copy puts or takes away next has a key
abbrev pub CopyHasKey : Copied → CopyNext → Type 0
CopyHasKey copy (copying.Put n) = n < length (keys copy)
CopyHasKey copy (copying.Delete n) = n < length (keys copy)
CopyHasKey copy next = Unit {0}

-- a copy on the desk
pub record CopyStands (objects : Objects) (paths : List Path) (entries : List Entry) (copy : Copied) (next : CopyNext)
    : Type 0 where
  pub source : IsSource paths copy
  pub at : CopyAt objects entries copy next
  pub key : CopyHasKey copy next

-- each copy on the desk, and no two have one id
pub record CopiesStand (objects : Objects) (paths : List Path) (entries : List Entry)
    (desk : List TierTask) : Type 0 where
  pub each : (a : ℕ) (copy : Copied) (next : CopyNext) → slice_get desk a ≡ Some (Copies copy next)
      → CopyStands objects paths entries copy next
  pub apart : (a c : ℕ) (copy other : Copied) (next then : CopyNext) → slice_get desk a ≡ Some (Copies copy next)
      → slice_get desk c ≡ Some (Copies other then) → copy.id ≡ other.id → a ≡ c
