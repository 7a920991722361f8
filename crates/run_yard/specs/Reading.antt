-- What an environment's registries say of a run, and what reading them changes.
--
--   form                    says
--   Rests d e               a disk reads as it did
--   RestsOn a b             so does what is held of it; where there was none, one without files may be
--   OnlyReads old new         nothing has changed, but that registries may have been read
--   said asked file         what a registry's file makes of a run with so many brokers: a refusal, or none
--   Suits asked held p      the partition's makes none of it
--   judged asked found      what a run with so many brokers returns where the registry was found so
--   IsReady asked held p    and it is there, or the partition has no object and no metadata event
--   ReadsLast p bytes c c'  this partition's registry was read last, as these bytes
--   IsRefusedSo ..          a refusal comes of this
use Rattle.std.specs.Prelude.{◌≡◌, ◌++◌, ◌∷◌, [], ℕ, ◌<◌, ◌==◌, if◌then◌else◌, List}
use Rattle.std.specs.Prelude.{Option, Some, None, Ok, Err, IsTrue}
use Rattle.std.specs.declared.result.Result.{Result}
use Rattle.tier_base.specs.Counts.{Rose}
use Rattle.tier_base.specs.declared.names.BrokerId.{BrokerId}
use Rattle.tier_base.specs.declared.names.PartitionId.{PartitionId}
use Rattle.tier_base.specs.declared.plain.FileName.{FileName}
use Rattle.tier_base.specs.declared.plain.FileName.TheVariants.{Registry}
use Rattle.disk_model.specs.Content as disk
use Rattle.disk_model.specs.Memory.{IsEmptyDisk}
use Rattle.object_store.specs.Content as store
use Rattle.meta_log.specs.Content as log
use Rattle.registry_file.specs.Reading.{view_in}
use Rattle.device_yard.specs.Control.{Control}
use Rattle.device_yard.specs.declared.read_registry.ReadRegistry.{ReadRegistry}
use Rattle.device_yard.specs.YardContent.{YardContent, Both, IsBare}
use Rattle.registry.specs.declared.view.RegView.{RegView}
use Rattle.registry_disk.specs.declared.refusal.FindRefusal.{FindRefusal}
use Rattle.cold_start.specs.Opening.{says, refusal_of_find}
use Rattle.cold_start.specs.declared.refusal.ColdRefusal.{ColdRefusal}
use Rattle.cold_start.specs.declared.refusal.ColdRefusal.TheVariants as cold
use Rattle.run_yard.specs.declared.refusal.YardRefusal.{YardRefusal}
use Rattle.run_yard.specs.declared.refusal.YardRefusal.TheVariants.{Fault, Mismatch, BadRegistry, NoMemory}

-- a disk reads as it did, and a power cut leaves nothing else of it
pub record DiskRests (old new : disk.Content) : Type 0 where
  pub is_observable : new.is_observable ≡ old.is_observable
  pub files : (n : FileName) → new.files n ≡ old.files n
  pub images : (c : disk.Files) → disk.Image new c → disk.Image old c

-- so does what is held of a disk; where there was none, one without files may be
abbrev pub RestsOn : {D : Type 0} → (D → disk.Content) → Option D → Option D → Type 0
RestsOn files None None = Unit {0}
RestsOn files None (Some e) = IsEmptyDisk (files e)
RestsOn files (Some d) (Some e) = DiskRests (files d) (files e)
RestsOn files (Some d) None = ⊥

-- the registry's file of a disk that is held
abbrev pub file_in : {D : Type 0} → (D → disk.Content) → Option D → Option (List ℕ)
file_in files None = None
file_in files (Some d) = (files d).files Registry

-- what a registry's file makes of a run with so many brokers: a refusal, or none
abbrev pub said : ℕ → Option (List ℕ) → Option ColdRefusal
said asked None = None
said asked (Some bytes) = says asked (view_in bytes)

-- a registry that was found so continues with so many brokers, or is refused for this
abbrev pub judged : ℕ → Result (Option RegView) FindRefusal → Result (Unit {0}) ColdRefusal
judged asked (Ok None) = Ok tt
judged asked (Ok (Some view)) = if view.brokers == asked then Ok tt else Err (cold.Brokers view.brokers asked)
judged asked (Err why) = Err (refusal_of_find why)

-- this partition's registry was read last, as these bytes
pub record ReadsLast (partition : PartitionId) (bytes : List ℕ) (old new : Control) : Type 0 where
  pub before : List ReadRegistry
  pub is : new.registries ≡ (old.registries ++ before) ++ record { partition = partition; last_read = bytes } ∷ []

-- registries were read, or none
pub record ReadsMore (old new : Control) : Type 0 where
  pub more : List ReadRegistry
  pub is : new.registries ≡ old.registries ++ more

module _ {D S M : Type 0} (files : D → disk.Content) (objects : S → store.Content) (notes : M → log.Content) where
  -- no name and no content that is held has changed, but that registries' disks may be there that hold nothing
  pub record OnlyReads (old new : YardContent D S M) : Type 0 where
    pub is_observable : new.is_observable ≡ old.is_observable
    pub strays : new.strays ≡ old.strays
    pub disks : (p : PartitionId) (b : BrokerId) → RestsOn files (old.disks p b) (new.disks p b)
    pub stores : (p : PartitionId) → Both (λ s t. store.Keeps (objects s) (objects t)) (old.stores p) (new.stores p)
    pub logs : (p : PartitionId) → Both (λ m n. log.Keeps (notes m) (notes n)) (old.logs p) (new.logs p)
    pub registries : (p : PartitionId) → RestsOn files (old.registries p) (new.registries p)

  -- the partition's registry refuses no run with so many brokers
  abbrev pub Suits : ℕ → YardContent D S M → PartitionId → Type 0
  Suits asked held p = said asked (file_in files (held.registries p)) ≡ None

  -- and where there is none, there is no object and no metadata event either
  pub record IsReady (asked : ℕ) (held : YardContent D S M) (p : PartitionId) : Type 0 where
    pub suits : Suits asked held p
    pub bare : IsBare files objects notes held p → ⊥

  -- A partition's registry refuses the run: the bytes that its disk last returned say so, and where the environment
  -- reports they are its file, no partition before it is refused, and nothing has changed.
  pub record IsSaidOf (partition : PartitionId) (asked : ℕ) (why : ColdRefusal) (old new : YardContent D S M)
      (c c' : Control) : Type 0 where
    pub bytes : List ℕ
    pub read : ReadsLast partition bytes c c'
    pub says : says asked (view_in bytes) ≡ Some why
    pub file : IsTrue old.is_observable → file_in files (old.registries partition) ≡ Some bytes
    pub first : IsTrue old.is_observable → (q : PartitionId) → q.0 < partition.0 → Suits asked old q
    pub unchanged : IsTrue old.is_observable → OnlyReads old new

  -- why a run with so many brokers was refused
  abbrev pub IsRefusedSo : ℕ → YardContent D S M → YardContent D S M → Control → Control → YardRefusal → Type 0
  IsRefusedSo asked old new c c' Fault = Rose c.faults c'.faults
  IsRefusedSo asked old new c c' (Mismatch p kept wanted) =
      (wanted ≡ asked) × IsSaidOf p asked (cold.Brokers kept wanted) old new c c'
  IsRefusedSo asked old new c c' (BadRegistry p at) = IsSaidOf p asked (cold.BadRegistry at) old new c c'
  IsRefusedSo asked old new c c' NoMemory = Unit {0}
