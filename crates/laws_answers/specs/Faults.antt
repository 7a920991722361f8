-- Calls of devices that failed in a turn: the device's count of faults rose, or is at its type's greatest value.
use Rattle.std.specs.Prelude.{ℕ}
use Rattle.tier_base.specs.Counts.{Rose}
use Rattle.disk_model.specs.declared.disk.Disk.{Ghosts as DiskGhosts}
use Rattle.object_store.specs.declared.store.Store.{Ghosts as StoreGhosts}
use Rattle.meta_log.specs.declared.log.MetaLog.{Ghosts as MetaGhosts}
use Rattle.partition_commands.specs.Disks.{DiskFails}
use Rattle.partition_world.specs.Whole.{Whole}

module _ {D S M : Type 0} (disk : DiskGhosts D) where
  -- a call of the broker's disk failed
  abbrev pub DiskFailed : ℕ → Whole D S M → Whole D S M → Type 0
  DiskFailed b w w' = DiskFails disk.control b w.partition_state w'.partition_state

module _ {D S M : Type 0} (store : StoreGhosts S) where
  -- a call of the store failed
  abbrev pub StoreFailed : Whole D S M → Whole D S M → Type 0
  StoreFailed w w' = Rose (store.control w.tier.store).faults (store.control w'.tier.store).faults

module _ {D S M : Type 0} (meta : MetaGhosts M) where
  -- a call of the metadata log failed
  abbrev pub MetaFailed : Whole D S M → Whole D S M → Type 0
  MetaFailed w w' = Rose (meta.control w.tier.meta).faults (meta.control w'.tier.meta).faults

module _ {D S M : Type 0} (disk : DiskGhosts D) (store : StoreGhosts S) (meta : MetaGhosts M) where
  -- no call of a device failed that a command of this broker may make
  pub record CommandMeetsNoFault (b : ℕ) (w w' : Whole D S M) : Type 0 where
    pub disk_well : DiskFailed disk b w w' → ⊥
    pub store_well : StoreFailed store w w' → ⊥
    pub meta_well : MetaFailed meta w w' → ⊥
