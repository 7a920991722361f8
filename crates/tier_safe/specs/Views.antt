-- What holds of metadata events and views.
--
--   Notes      each metadata event keeps its rules
--   Views      a broker's view is the fold of the first metadata events
--   Partition  everything is of the one partition
--   Ids        no id is used twice
--
-- Source: KIP-405. A broker reads the remote log metadata in its order, as far as it has come. Kafka draws a random
-- id for each copy; here it is made of what makes it unique.
use Rattle.std.specs.List.{AllByRecursion}
use Rattle.std.specs.Prelude.{◌≡◌, ◌⊎◌, ℕ, ◌^◌, ◌<◌, ◌≤◌, true, List, Some, slice_get}
use mathlib.Core.List.{IsPrefix}
use Rattle.tier_base.specs.declared.names.SegmentId.{SegmentId}
use Rattle.tier_base.specs.declared.names.PartitionId.{PartitionId}
use Rattle.tier_base.specs.declared.object_key.ObjectKey.{ObjectKey}
use Rattle.tier_base.specs.Key.{id_bytes, IsId}
use Rattle.segment_meta.specs.Rules.{IsNote}
use Rattle.segment_meta.specs.declared.note.Entry.{Entry}
use Rattle.segment_meta.specs.declared.note.Note.{Note}
use Rattle.segment_meta.specs.declared.note.Note.TheVariants.{Add, Update}
use Rattle.object_store.specs.Content.{Objects}
use Rattle.remote_view.specs.Fold.{EntriesSeen, entry_of, view_of}
use Rattle.copy_task.specs.Copying.{Copied}
use Rattle.copy_task.specs.declared.turn.CopyStep.{CopyStep as CopyNext}
use Rattle.expiry_task.specs.declared.turn.ExpiredSegment.{ExpiredSegment}
use Rattle.expiry_task.specs.declared.turn.DeletionStep.{DeletionStep as ExpiryNext}
use Rattle.tier_safe.specs.Scene.{BrokerTierView, TierTask, Copies, Expires}

-- metadata events

-- what a metadata event adds has an id
abbrev pub HasId : Note → Type 0
HasId (Add entry) = IsId entry.id
HasId (Update id broker event_ts state custom) = Unit {0}

-- a metadata event keeps its rules
pub record IsNoteRight (note : Note) : Type 0 where
  pub is : IsNote note
  pub id : HasId note

-- each metadata event keeps its rules, and so will those of the copies on the desk
pub record NotesStand (notes : List Note) (desk : List TierTask) : Type 0 where
  pub right : AllByRecursion IsNoteRight notes
  pub ids : (a : ℕ) (copy : Copied) (next : CopyNext) → slice_get desk a ≡ Some (Copies copy next) → IsId copy.id

-- views

-- the view is the fold of the first metadata events
pub record IsViewOf (notes : List Note) (view : EntriesSeen) : Type 0 where
  pub before : List Note
  pub begins : IsPrefix before notes
  pub is : view ≡ view_of before

-- each broker's is
abbrev pub ViewsStand : List Note → List BrokerTierView → Type 0
ViewsStand notes tier_views =
    (b : ℕ) (tier_view : BrokerTierView) → slice_get tier_views b ≡ Some tier_view → IsViewOf notes tier_view.view

-- the partition

-- entries, objects, and what is copied or deleted are of this partition
pub record AreOfPartition (partition : PartitionId) (objects : Objects) (entries : List Entry)
    (desk : List TierTask) : Type 0 where
  pub told : (id : SegmentId) (entry : Entry) → entry_of id entries ≡ Some entry → entry.partition ≡ partition
  pub stored : (key : ObjectKey) (bytes : List ℕ) → objects key ≡ Some bytes → key.partition ≡ partition
  pub copied : (a : ℕ) (copy : Copied) (next : CopyNext) → slice_get desk a ≡ Some (Copies copy next)
      → copy.partition ≡ partition
  pub deleted : (a : ℕ) (expired_segment : ExpiredSegment) (next : ExpiryNext)
      → slice_get desk a ≡ Some (Expires expired_segment next)
      → expired_segment.partition ≡ partition

-- ids

-- the id is made of a partition, a broker, an incarnation of its log, and an attempt
pub record IsIdOf (id : SegmentId) (partition broker incarnation attempt : ℕ) : Type 0 where
  pub is : id.0 ≡ id_bytes partition broker incarnation attempt
  pub partition_fits : partition < 2 ^ 16
  pub broker_fits : broker < 2 ^ 16
  pub incarnation_fits : incarnation < 2 ^ 32
  pub attempt_fits : attempt < 2 ^ 64

-- the broker has chosen it before: of this incarnation, while it is up, only attempts below the next one
pub record IsChosen (tier_view : BrokerTierView) (incarnation attempt : ℕ) : Type 0 where
  pub opened : incarnation ≤ tier_view.incarnation
  pub below : tier_view.up ≡ true → incarnation ≡ tier_view.incarnation → attempt < tier_view.next

-- the id has an entry
abbrev pub IsNamed : List Entry → SegmentId → Type 0
IsNamed entries id = (entry : Entry) × (entry_of id entries ≡ Some entry)

-- it has one, or is that of a copy on the desk
abbrev pub IsIdUsed : List Entry → List TierTask → SegmentId → Type 0
IsIdUsed entries desk id = IsNamed entries id
    ⊎ ((a : ℕ) × (copy : Copied) × (next : CopyNext) × (slice_get desk a ≡ Some (Copies copy next)) × (copy.id ≡ id))

-- each id that is used was chosen by its broker before
abbrev pub IdsStand : List Entry → List BrokerTierView → List TierTask → Type 0
IdsStand entries tier_views desk =
    (id : SegmentId) (partition b incarnation attempt : ℕ) (tier_view : BrokerTierView) → IsIdUsed entries desk id
    → IsIdOf id partition b incarnation attempt → slice_get tier_views b ≡ Some tier_view
    → IsChosen tier_view incarnation attempt
