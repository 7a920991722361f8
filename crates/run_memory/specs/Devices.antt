-- The devices that a script begins with: a disk for each broker, the store, and the metadata log.
use Rattle.std.specs.Prelude.{◌≡◌, List, [], IsTrue}
use Rattle.disk_model.specs.declared.disk.Disk.{Ghosts as DiskGhosts}
use Rattle.object_store.specs.declared.store.Store.{Ghosts as StoreGhosts}
use Rattle.object_store.specs.Memory.{IsEmptyStore}
use Rattle.meta_log.specs.declared.log.MetaLog.{Ghosts as MetaGhosts}
use Rattle.script_lang.specs.declared.fault.Fault.{Fault}
use Rattle.partition_commands.specs.Fresh.{AreFreshDisks, DisksTell}
use Rattle.run_memory.specs.Plans.{store_plan, meta_plan, IsPlanned, ArePlanned}

module _ {D S M : Type 0} (disk : DiskGhosts D) (store : StoreGhosts S) (meta : MetaGhosts M) where
  -- those calls of them fail that the faults name
  pub record HaveFaults (faults : List Fault) (disks : List D) (s : S) (m : M) : Type 0 where
    pub disk_plans : ArePlanned disk.control faults 0 disks
    pub store_plan_is : IsPlanned (store_plan faults) (store.control s)
    pub meta_plan_is : IsPlanned (meta_plan faults) (meta.control m)

  -- they report, and have no files, no objects and no metadata events
  pub record AreBlank (disks : List D) (s : S) (m : M) : Type 0 where
    pub fresh : AreFreshDisks disk.content disk.control disks
    pub disks_tell : DisksTell disk.content disks
    pub objects : IsEmptyStore (store.content s)
    pub meta_tells : IsTrue (meta.content m).is_observable
    pub notes : (meta.content m).notes ≡ []
