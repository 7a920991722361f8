-- The partitions and the names that are in an environment in memory.
use Rattle.std.specs.Prelude.{◌↔◌, List, ℕ, Option}
use Rattle.tier_base.specs.declared.names.PartitionId.{PartitionId}
use Rattle.disk_model.specs.declared.memory_disk.MemoryDisk.{MemoryDisk}
use Rattle.object_store.specs.declared.memory_store.MemoryStore.{MemoryStore}
use Rattle.meta_log_file.specs.Log.{NoteLog}
use Rattle.disk_model.specs.contracts.memory_disk.MemoryDiskDisk.TheImpl as disk
use Rattle.object_store.specs.contracts.memory_store.MemoryStoreStore.TheImpl as store
use Rattle.tier_base.specs.Told.{In}
use Rattle.memory_yard.specs.Log.{told}
use Rattle.device_yard.specs.YardContent.{YardContent, Same, IsNameInYard, IsFirstName}
use Rattle.device_yard.specs.YardContent.{AreUsed, HasTier, HasRegistry, IsBare}

-- no name and no content has changed
abbrev pub SameYardContent : YardContent MemoryDisk MemoryStore (NoteLog MemoryDisk)
    → YardContent MemoryDisk MemoryStore (NoteLog MemoryDisk) → Type 0
SameYardContent old new = Same (disk.ghosts).content (store.ghosts).content told old new

-- the partitions in use
abbrev pub AreUsedOf : YardContent MemoryDisk MemoryStore (NoteLog MemoryDisk) → List PartitionId → Type 0
AreUsedOf held list = AreUsed (disk.ghosts).content (store.ghosts).content told held list

-- the first of the names
abbrev pub IsFirstOf : YardContent MemoryDisk MemoryStore (NoteLog MemoryDisk) → Option (List ℕ) → Type 0
IsFirstOf held first = IsFirstName (IsNameInYard (disk.ghosts).content (store.ghosts).content told held) first

-- the partitions that have an object or a metadata event
abbrev pub HaveTiers : YardContent MemoryDisk MemoryStore (NoteLog MemoryDisk) → List PartitionId → Type 0
HaveTiers held list = (p : PartitionId) → HasTier (disk.ghosts).content (store.ghosts).content told held p ↔ In p list

-- the partitions that have a registry's file
abbrev pub HaveRegistries : YardContent MemoryDisk MemoryStore (NoteLog MemoryDisk) → List PartitionId → Type 0
HaveRegistries held list =
    (p : PartitionId) → HasRegistry (disk.ghosts).content (store.ghosts).content told held p ↔ In p list

-- the partitions that have an object or a metadata event, and no registry
abbrev pub AreBare : YardContent MemoryDisk MemoryStore (NoteLog MemoryDisk) → List PartitionId → Type 0
AreBare held list = (p : PartitionId) → IsBare (disk.ghosts).content (store.ghosts).content told held p ↔ In p list
