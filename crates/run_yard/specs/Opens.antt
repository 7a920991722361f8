-- The plain states in which a partition may begin over its devices.
--
--   form                says
--   OpensFresh .. p     the devices hold nothing of a partition, and p is the fresh state
--   MayBeginIn .. p        they represent p, or hold nothing of a partition and p is the fresh state
use Rattle.std.specs.Prelude.{◌≡◌, ◌⊎◌}
use Rattle.tier_base.specs.declared.names.PartitionId.{PartitionId}
use Rattle.disk_model.specs.declared.disk.Disk.{Ghosts as DiskGhosts}
use Rattle.object_store.specs.declared.store.Store.{Ghosts as StoreGhosts}
use Rattle.meta_log.specs.declared.log.MetaLog.{Ghosts as MetaGhosts}
use Rattle.plain_log.specs.declared.command.Config.{Config}
use Rattle.plain_log.specs.declared.state.State.{State}
use Rattle.plain_log.specs.Fresh.{fresh}
use Rattle.partition_commands.specs.Fresh.{DisksTell}
use Rattle.partition_world.specs.declared.tier.Devices.{Devices}
use Rattle.cold_start.specs.Stands.{StandsFor, IsBlank}

module _ {D S M : Type 0} (disk : DiskGhosts D) (store : StoreGhosts S) (meta : MetaGhosts M) where
  -- they report, and no registry, object or metadata event of the partition was ever kept
  pub record OpensFresh (config : Config) (devices : Devices D S M) (registry : D) (p : State) : Type 0 where
    pub state : p ≡ fresh config
    pub disks_tell : DisksTell disk.content devices.disks.items
    pub blank : IsBlank disk store meta devices.store devices.meta registry

  -- the plain states in which a run may begin
  abbrev pub MayBeginIn : PartitionId → Config → Devices D S M → D → State → Type 0
  MayBeginIn partition config devices registry p =
      StandsFor disk store meta partition devices.disks.items devices.store devices.meta registry p
      ⊎ OpensFresh config devices registry p
