-- A world some turns later.
use Rattle.std.specs.Prelude.{◌≡◌, ℕ}
use Rattle.disk_model.specs.declared.disk.Disk.{Ghosts as DiskGhosts}
use Rattle.object_store.specs.declared.store.Store.{Ghosts as StoreGhosts}
use Rattle.meta_log.specs.declared.log.MetaLog.{Ghosts as MetaGhosts}
use Rattle.partition_world.specs.Whole.{Whole}
use Rattle.partition_world.specs.Turn.{IsAtEnd}
use Rattle.partition_world.specs.Central.{KeepsCentral}
use Rattle.partition_world.specs.Left.{KeepsCentralLeft}

module _ {D S M : Type 0} (disk : DiskGhosts D) (store : StoreGhosts S) (meta : MetaGhosts M) where
  -- the same partition, configuration and lists; the central fact continues, and who was at the end is
  pub record IsLater (w w' : Whole D S M) : Type 0 where
    pub partition : w'.partition ≡ w.partition
    pub config : w'.config ≡ w.config
    pub lists : w'.lists ≡ w.lists
    pub central : KeepsCentral disk store meta w w'
    pub left : KeepsCentralLeft disk store meta w w'
    pub ends : (a : ℕ) → IsAtEnd w a → IsAtEnd w' a
