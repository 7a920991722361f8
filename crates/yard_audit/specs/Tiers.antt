-- The tiers of partitions as an observable environment holds them, and what becomes of them while a round is made.
--
--   form                       says
--   HoldsTier held p tier      the partition's store and metadata log hold this tier
--   MayLeave held p tier       a power cut may leave this tier of them
--   YardRests old new            each partition's tier is as it was, and each disk
--   TierIs p s m old new       the partition's store and metadata log are these now, or none, and the rest is as it was
use Rattle.std.specs.Prelude.{◌≡◌, ◌≢◌, ℕ, ◌+◌, ◌≤◌, List, [], Option, Some, None}
use Rattle.tier_base.specs.Counts.{counted}
use Rattle.tier_base.specs.declared.names.BrokerId.{BrokerId}
use Rattle.tier_base.specs.declared.names.PartitionId.{PartitionId}
use Rattle.tier_base.specs.declared.object_key.ObjectKey.{ObjectKey}
use Rattle.tier_base.specs.declared.plain.FileName.{FileName}
use Rattle.segment_meta.specs.declared.note.Note.{Note}
use Rattle.disk_model.specs.Content as disk
use Rattle.object_store.specs.Content as store
use Rattle.meta_log.specs.Content as log
use Rattle.device_yard.specs.Control.{Control}
use Rattle.device_yard.specs.YardContent.{YardContent}
use Rattle.tier_sweep.specs.Sweeping.{SweptTier}

-- a file of a disk, none where there is no disk
abbrev pub file_on : {D : Type 0} → (D → disk.Content) → Option D → FileName → Option (List ℕ)
file_on files None name = None
file_on files (Some d) name = (files d).files name

-- an object of a store, none where there is no store
abbrev pub object_on : {S : Type 0} → (S → store.Content) → Option S → ObjectKey → Option (List ℕ)
object_on objects None key = None
object_on objects (Some s) key = (objects s).objects key

-- the metadata events of a metadata log, none where there is no log
abbrev pub notes_on : {M : Type 0} → (M → log.Content) → Option M → List Note
notes_on notes None = []
notes_on notes (Some m) = (notes m).notes

-- what a power cut may leave of a metadata log, no metadata events where there is no log
abbrev pub left_on : {M : Type 0} → (M → log.Content) → Option M → List Note → Type 0
left_on notes None left = left ≡ []
left_on notes (Some m) left = log.Left (notes m) left

-- it leaves nothing more than it might have left before
abbrev pub LeavesNoMore : {M : Type 0} → (M → log.Content) → Option M → Option M → Type 0
LeavesNoMore notes old new = (left : List Note) → left_on notes new left → left_on notes old left

module _ {D S M : Type 0} (objects : S → store.Content) (notes : M → log.Content) where
  -- a power cut may leave this tier of the partition's store and metadata log
  pub record MayLeave (held : YardContent D S M) (p : PartitionId) (tier : SweptTier) : Type 0 where
    pub objects_are : (key : ObjectKey) → tier.objects key ≡ object_on objects (held.stores p) key
    pub notes_are : left_on notes (held.logs p) tier.notes

  -- the partition's store and metadata log hold this tier
  pub record HoldsTier (held : YardContent D S M) (p : PartitionId) (tier : SweptTier) : Type 0 where
    pub objects_are : (key : ObjectKey) → tier.objects key ≡ object_on objects (held.stores p) key
    pub notes_are : tier.notes ≡ notes_on notes (held.logs p)

module _ {D S M : Type 0} (files : D → disk.Content) where
  -- the files of each disk are as they were, of a broker's and of one that keeps a registry
  pub record DisksRest (old new : YardContent D S M) : Type 0 where
    pub brokers : (p : PartitionId) (b : BrokerId) (name : FileName)
        → file_on files (new.disks p b) name ≡ file_on files (old.disks p b) name
    pub registries : (p : PartitionId) (name : FileName)
        → file_on files (new.registries p) name ≡ file_on files (old.registries p) name

module _ {D S M : Type 0} (files : D → disk.Content) (objects : S → store.Content) (notes : M → log.Content) where
  -- each partition's tier is as it was, and each disk
  pub record YardRests (old new : YardContent D S M) : Type 0 where
    pub objects_rest : (p : PartitionId) (key : ObjectKey)
        → object_on objects (new.stores p) key ≡ object_on objects (old.stores p) key
    pub notes_rest : (p : PartitionId) → notes_on notes (new.logs p) ≡ notes_on notes (old.logs p)
    pub left_rests : (p : PartitionId) → LeavesNoMore notes (old.logs p) (new.logs p)
    pub disks_rest : DisksRest files old new

  -- each other partition's tier is as it was, and each disk
  pub record OthersRest (p : PartitionId) (old new : YardContent D S M) : Type 0 where
    pub objects_rest : (q : PartitionId) → q ≢ p → (key : ObjectKey)
        → object_on objects (new.stores q) key ≡ object_on objects (old.stores q) key
    pub notes_rest : (q : PartitionId) → q ≢ p → notes_on notes (new.logs q) ≡ notes_on notes (old.logs q)
    pub left_rests : (q : PartitionId) → q ≢ p → LeavesNoMore notes (old.logs q) (new.logs q)
    pub disks_rest : DisksRest files old new

module _ {D S M : Type 0} where
  -- the partition's store and metadata log are these now, or none, and the rest is as it was
  pub record TierIs (p : PartitionId) (s : Option S) (m : Option M) (old new : YardContent D S M) : Type 0 where
    pub store_is : new.stores p ≡ s
    pub log_is : new.logs p ≡ m
    pub stores : (q : PartitionId) → q ≢ p → new.stores q ≡ old.stores q
    pub logs : (q : PartitionId) → q ≢ p → new.logs q ≡ old.logs q
    pub disks : (q : PartitionId) (b : BrokerId) → new.disks q b ≡ old.disks q b
    pub registries : (q : PartitionId) → new.registries q ≡ old.registries q

-- as many devices are out as before; the count of faults, which stays at its type's greatest value, doesn't fall
pub record StaysOut (old new : Control) : Type 0 where
  pub never_falls : counted old.faults 0 ≤ new.faults
  pub named : new.named ≡ old.named
  pub out : new.out ≡ old.out

-- two devices more are out, and no call failed
pub record AreOut (old new : Control) : Type 0 where
  pub faults : new.faults ≡ old.faults
  pub named : new.named ≡ old.named
  pub out : new.out ≡ old.out + 2

-- and are back; no fault is forgotten
pub record CameBack (old new : Control) : Type 0 where
  pub never_falls : counted old.faults 0 ≤ new.faults
  pub named : new.named ≡ old.named
  pub out : new.out + 2 ≡ old.out
