-- What turns leave of a world's devices.
use Rattle.tier_base.specs.Device.{Lasts}
use Rattle.disk_model.specs.declared.disk.Disk.{Ghosts as DiskGhosts}
use Rattle.object_store.specs.declared.store.Store.{Ghosts as StoreGhosts}
use Rattle.meta_log.specs.declared.log.MetaLog.{Ghosts as MetaGhosts}
use Rattle.partition_commands.specs.Disks.{DisksLast}
use Rattle.partition_world.specs.Whole.{Whole}

-- each device has lasted: its plan is as it was, and its count of faults hasn't fallen
pub record HaveLasted {D S M : Type 0} (disk : DiskGhosts D) (store : StoreGhosts S) (meta : MetaGhosts M)
    (w w' : Whole D S M)
    : Type 0 where
  pub disks : DisksLast disk.control w.partition_state.nodes w'.partition_state.nodes
  pub store_lasts : Lasts (store.control w.tier.store) (store.control w'.tier.store)
  pub meta_lasts : Lasts (meta.control w.tier.meta) (meta.control w'.tier.meta)
