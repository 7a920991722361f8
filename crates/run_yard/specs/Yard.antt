-- What a run does to an environment: a partition's devices go out and come back, and those of others rest.
--
--   form                        says
--   SameOf p old new            of partition p the same devices are held
--   OnlyOf p old new            nothing has changed but the devices of partition p
--   HandedOut n old new         so many devices went out
--   CameBack came old new       devices came back with these counts
--   Uses came old new           devices went out, and all are back with these counts
use Rattle.std.specs.Prelude.{◌≡◌, ◌≢◌, ℕ, ◌+◌, ◌≤◌, if◌then◌else◌, List, [], ◌∷◌}
use Rattle.std.specs.Prelude.{◌++◌, map, length, Some, slice_get, IsTrue}
use Rattle.tier_base.specs.Counts.{counted}
use Rattle.tier_base.specs.Device.{Control as DeviceControl}
use Rattle.tier_base.specs.declared.names.BrokerId.{BrokerId}
use Rattle.tier_base.specs.declared.names.PartitionId.{PartitionId}
use Rattle.device_yard.specs.declared.came.Came.{Came}
use Rattle.device_yard.specs.Control.{Control, is_fault}
use Rattle.disk_model.specs.Content as disk
use Rattle.disk_model.specs.declared.disk.Disk.{Ghosts as DiskGhosts}
use Rattle.object_store.specs.declared.store.Store.{Ghosts as StoreGhosts}
use Rattle.meta_log.specs.declared.log.MetaLog.{Ghosts as MetaGhosts}
use Rattle.device_yard.specs.YardContent.{YardContent, HoldsDisk}
use Rattle.partition_world.specs.declared.tier.Devices.{Devices}

-- the counts with which a device comes back
abbrev pub came_of : {T K : Type 0} {code : K → ℕ} → (T → DeviceControl code) → T → Came
came_of control device = record { faults = (control device).faults; armed = (control device).armed }

module _ {D S M : Type 0} (disk : DiskGhosts D) (store : StoreGhosts S) (meta : MetaGhosts M) where
  -- the counts with which a partition's devices come back, the disk of its registry last
  abbrev pub cames_of : Devices D S M → D → List Came
  cames_of devices registry = (map (came_of disk.control) devices.disks.items
      ++ came_of store.control devices.store ∷ came_of meta.control devices.meta ∷ [])
      ++ came_of disk.control registry ∷ []

-- the faults of an environment after devices came back so
abbrev pub faults_with : List Came → ℕ → ℕ
faults_with [] n = n
faults_with (came ∷ more) n = faults_with more (if is_fault came then counted n 1 else n)

-- so many devices more are out
pub record HandedOut (n : ℕ) (old new : Control) : Type 0 where
  pub faults : new.faults ≡ old.faults
  pub named : new.named ≡ old.named
  pub returned : new.returned ≡ old.returned
  pub out : new.out ≡ old.out + n

-- as many are out less
pub record CameBack (came : List Came) (old new : Control) : Type 0 where
  pub faults : new.faults ≡ faults_with came old.faults
  pub named : new.named ≡ old.named
  pub returned : new.returned ≡ old.returned ++ came
  pub out : new.out + length came ≡ old.out

-- as many are out as before; the count of faults, which stays at its type's greatest value, doesn't fall
pub record Uses (came : List Came) (old new : Control) : Type 0 where
  pub never_falls : counted old.faults 0 ≤ new.faults
  pub named : new.named ≡ old.named
  pub returned : new.returned ≡ old.returned ++ came
  pub out : new.out ≡ old.out

-- devices went out, and all are back
pub record AllCameBack (old new : Control) : Type 0 where
  pub came : List Came
  pub uses : Uses came old new

module _ {D S M : Type 0} where
  pub record SameOf (p : PartitionId) (old new : YardContent D S M) : Type 0 where
    pub disks : (b : BrokerId) → new.disks p b ≡ old.disks p b
    pub store : new.stores p ≡ old.stores p
    pub log : new.logs p ≡ old.logs p
    pub registry : new.registries p ≡ old.registries p

  -- it continues reporting or not, and where it is observable
  pub record OnlyOf (partition : PartitionId) (old new : YardContent D S M) : Type 0 where
    pub is_observable : new.is_observable ≡ old.is_observable
    pub others : IsTrue old.is_observable → (p : PartitionId) → p ≢ partition → SameOf p old new

  -- the partition's other devices are where they were
  pub record KeepsRest (partition : PartitionId) (old new : YardContent D S M) : Type 0 where
    pub store : new.stores partition ≡ old.stores partition
    pub log : new.logs partition ≡ old.logs partition
    pub registry : new.registries partition ≡ old.registries partition

  -- of the disks of the partition those of its brokers from this number on are where they were
  abbrev pub KeepsFrom : PartitionId → ℕ → YardContent D S M → YardContent D S M → Type 0
  KeepsFrom partition n old new = (b : BrokerId) → n ≤ b.0 → new.disks partition b ≡ old.disks partition b

  -- the disks of the partition's first so many brokers are back, and nothing else has changed
  pub record KeepsDisks (partition : PartitionId) (disks : List D) (old new : YardContent D S M) : Type 0 where
    pub only : OnlyOf partition old new
    pub here : IsTrue old.is_observable → (b : BrokerId) (disk : D) → slice_get disks b.0 ≡ Some disk
        → new.disks partition b ≡ Some disk
    pub past : IsTrue old.is_observable → KeepsFrom partition (length disks) old new
    pub rest : IsTrue old.is_observable → KeepsRest partition old new

  -- the environment holds these devices of the partition, but for the disk of its registry
  pub record YardHolds (partition : PartitionId) (devices : Devices D S M) (held : YardContent D S M) : Type 0 where
    pub disks : (b : BrokerId) (disk : D) → slice_get devices.disks.items b.0 ≡ Some disk
        → held.disks partition b ≡ Some disk
    pub store : held.stores partition ≡ Some devices.store
    pub log : held.logs partition ≡ Some devices.meta

  pub record KeepsDevices (partition : PartitionId) (devices : Devices D S M)
      (old new : YardContent D S M) : Type 0 where
    pub only : OnlyOf partition old new
    pub here : IsTrue old.is_observable → YardHolds partition devices new
    pub past : IsTrue old.is_observable → KeepsFrom partition (length devices.disks.items) old new
    pub registry : IsTrue old.is_observable → new.registries partition ≡ old.registries partition

module _ {D S M : Type 0} (files : D → disk.Content) where
  -- it holds all of them
  pub record HoldsAll (partition : PartitionId) (devices : Devices D S M) (registry : D)
      (held : YardContent D S M) : Type 0 where
    pub others : YardHolds partition devices held
    pub file : HoldsDisk files registry (held.registries partition)

  pub record KeepsAll (partition : PartitionId) (devices : Devices D S M) (registry : D)
      (old new : YardContent D S M) : Type 0 where
    pub only : OnlyOf partition old new
    pub here : IsTrue old.is_observable → HoldsAll partition devices registry new
