-- The devices of a partition as an environment provides them.
--
-- They are fresh, and report what they hold where the environment is observable: what it held.
use Rattle.std.specs.Prelude.{◌≡◌, ℕ, List, Some, slice_get, length, All, IsTrue}
use Rattle.tier_base.specs.Device.{IsFreshDevice}
use Rattle.tier_base.specs.declared.names.BrokerId.{BrokerId}
use Rattle.tier_base.specs.declared.names.PartitionId.{PartitionId}
use Rattle.disk_model.specs.declared.disk.Disk.{Ghosts as DiskGhosts}
use Rattle.object_store.specs.declared.store.Store.{Ghosts as StoreGhosts}
use Rattle.meta_log.specs.declared.log.MetaLog.{Ghosts as MetaGhosts}
use Rattle.device_yard.specs.YardContent.{YardContent, HandsDisk, HandsStore, HandsLog}
use Rattle.partition_world.specs.declared.tier.Devices.{Devices}

module _ {D S M : Type 0} (disk : DiskGhosts D) (store : StoreGhosts S) (meta : MetaGhosts M) where
  -- a disk
  pub record IsHandedDisk (held : YardContent D S M) (d : D) : Type 0 where
    pub fresh : IsFreshDevice (disk.control d)
    pub is_observable : (disk.content d).is_observable ≡ held.is_observable

  -- each of the disks of its first brokers has what the environment held as that broker's
  abbrev pub HandsDisks : PartitionId → List D → YardContent D S M → Type 0
  HandsDisks partition disks held = (b : BrokerId) (d : D) → slice_get disks b.0 ≡ Some d
      → HandsDisk disk.content (held.disks partition b) (disk.content d)

  -- each of the partition's devices has what the environment held
  pub record HandsDevices (partition : PartitionId) (devices : Devices D S M) (registry : D)
      (held : YardContent D S M) : Type 0 where
    pub logs : HandsDisks partition devices.disks.items held
    pub objects : HandsStore store.content (held.stores partition) (store.content devices.store)
    pub notes : HandsLog meta.content (held.logs partition) (meta.content devices.meta)
    pub file : HandsDisk disk.content (held.registries partition) (disk.content registry)

  -- the disks of the partition's first so many brokers
  pub record AreHandedDisks (partition : PartitionId) (count : ℕ) (disks : List D)
      (held : YardContent D S M) : Type 0 where
    pub count_is : length disks ≡ count
    pub each : All (IsHandedDisk held) disks
    pub hands : IsTrue held.is_observable → HandsDisks partition disks held

  -- its devices but the registry's disk, so many disks among them
  pub record AreHanded (partition : PartitionId) (count : ℕ) (devices : Devices D S M)
      (held : YardContent D S M) : Type 0 where
    pub disks : AreHandedDisks partition count devices.disks.items held
    pub store_tells : (store.content devices.store).is_observable ≡ held.is_observable
    pub meta_fresh : IsFreshDevice (meta.control devices.meta)
    pub meta_tells : (meta.content devices.meta).is_observable ≡ held.is_observable
    pub objects : IsTrue held.is_observable
        → HandsStore store.content (held.stores partition) (store.content devices.store)
    pub notes : IsTrue held.is_observable → HandsLog meta.content (held.logs partition) (meta.content devices.meta)

  -- all its devices
  pub record AreAllHanded (partition : PartitionId) (count : ℕ) (devices : Devices D S M) (registry : D)
      (held : YardContent D S M) : Type 0 where
    pub others : AreHanded partition count devices held
    pub file : IsHandedDisk held registry
    pub hands : IsTrue held.is_observable → HandsDevices partition devices registry held
