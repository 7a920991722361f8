-- What an environment in memory holds.
use Rattle.std.specs.Prelude.{◌≡◌, ◌+◌, ◌≤◌, true, List, ℕ, None, IsTrue}
use Rattle.tier_base.specs.declared.names.PartitionId.{PartitionId}
use Rattle.tier_base.specs.declared.names.BrokerId.{BrokerId}
use Rattle.disk_model.specs.declared.memory_disk.MemoryDisk.{MemoryDisk}
use Rattle.object_store.specs.declared.memory_store.MemoryStore.{MemoryStore}
use Rattle.meta_log_file.specs.Log.{NoteLog}
use Rattle.device_yard.specs.YardContent.{YardContent, Both}
use Rattle.memory_yard.specs.declared.place.DiskPlace.{DiskPlace}
use Rattle.memory_yard.specs.declared.slot.Slot.{Slot}
use Rattle.memory_yard.specs.Shelf.{at}
use Rattle.memory_yard.specs.Place.{same_partition, same_disk}
use Rattle.memory_yard.specs.Crash.{DropsUnsynced}

-- the strays, and what is on the shelves
abbrev pub held_by : List (List ℕ) → List (Slot DiskPlace MemoryDisk) → List (Slot PartitionId MemoryStore)
    → List (Slot PartitionId (NoteLog MemoryDisk)) → List (Slot PartitionId MemoryDisk)
    → YardContent MemoryDisk MemoryStore (NoteLog MemoryDisk)
held_by strays disks stores logs registries = record {
  is_observable = true;
  strays = strays;
  disks = λ p b. at same_disk (record { partition = p; broker = b }) disks;
  stores = λ p. at same_partition p stores;
  logs = λ p. at same_partition p logs;
  registries = λ p. at same_partition p registries;
}

-- nothing but strays
pub record IsEmptyYard {D S M : Type 0} (names : List (List ℕ)) (held : YardContent D S M) : Type 0 where
  pub is_observable : IsTrue held.is_observable
  pub strays : held.strays ≡ names
  pub disks : (p : PartitionId) (b : BrokerId) → held.disks p b ≡ None
  pub stores : (p : PartitionId) → held.stores p ≡ None
  pub logs : (p : PartitionId) → held.logs p ≡ None
  pub registries : (p : PartitionId) → held.registries p ≡ None

-- a crash of each disk that came back: of brokers, of registries, and of metadata logs; the rest is as it was
pub record CrashesYard (old new : YardContent MemoryDisk MemoryStore (NoteLog MemoryDisk)) : Type 0 where
  pub is_observable : new.is_observable ≡ old.is_observable
  pub strays : new.strays ≡ old.strays
  pub disks : (p : PartitionId) (b : BrokerId) → Both DropsUnsynced (old.disks p b) (new.disks p b)
  pub registries : (p : PartitionId) → Both DropsUnsynced (old.registries p) (new.registries p)
  pub stores : (p : PartitionId) → Both (λ s t. t ≡ s) (old.stores p) (new.stores p)
  pub logs : (p : PartitionId) → Both (λ m n. DropsUnsynced m.disk n.disk) (old.logs p) (new.logs p)

-- one more device may come back to each shelf than are out
pub record HasRoom (out d s l r : ℕ) : Type 0 where
  pub disks : out + 1 ≤ d
  pub stores : out + 1 ≤ s
  pub logs : out + 1 ≤ l
  pub registries : out + 1 ≤ r
