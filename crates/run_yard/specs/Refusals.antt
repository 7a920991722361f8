-- Which refusal of a run over an environment represents another, and what a partition's refusal comes of.
use Rattle.std.specs.Prelude.{◌≡◌, ◌⊎◌, ◌<◌, ℕ, Some, IsTrue}
use Rattle.tier_base.specs.Counts.{Rose}
use Rattle.tier_base.specs.Device.{Lasts}
use Rattle.tier_base.specs.declared.fault.Trouble.{Trouble}
use Rattle.tier_base.specs.declared.fault.Trouble.TheVariants as trouble
use Rattle.tier_base.specs.declared.names.PartitionId.{PartitionId}
use Rattle.tier_base.specs.declared.plain.FileName.TheVariants.{Registry}
use Rattle.disk_model.specs.declared.disk.Disk.{Ghosts as DiskGhosts}
use Rattle.meta_log.specs.declared.log.MetaLog.{Ghosts as MetaGhosts}
use Rattle.registry_file.specs.Reading.{view_in}
use Rattle.partition_commands.specs.Fresh.{OneFailed}
use Rattle.partition_world.specs.declared.tier.Devices.{Devices}
use Rattle.cold_start.specs.Opening.{AllLast, says}
use Rattle.cold_start.specs.declared.refusal.ColdRefusal.{ColdRefusal}
use Rattle.cold_start.specs.declared.refusal.ColdRefusal.TheVariants as cold
use Rattle.run_yard.specs.declared.refusal.YardRefusal.{YardRefusal}
use Rattle.run_yard.specs.declared.refusal.YardRefusal.TheVariants.{Fault, Mismatch, BadRegistry, NoMemory}

-- a call of the environment
abbrev pub of_trouble : Trouble → YardRefusal
of_trouble trouble.Failed = Fault
of_trouble trouble.NoMemory = NoMemory

-- the run of a partition
abbrev pub of_cold : PartitionId → ColdRefusal → YardRefusal
of_cold partition cold.RegistryFault = Fault
of_cold partition cold.DeviceFault = Fault
of_cold partition (cold.BadRegistry at) = BadRegistry partition at
of_cold partition (cold.Brokers kept asked) = Mismatch partition kept asked
of_cold partition cold.NoMemory = NoMemory

-- a refusal that no registry's file has given
abbrev pub IsOfDevices : YardRefusal → Type 0
IsOfDevices Fault = Unit {0}
IsOfDevices NoMemory = Unit {0}
IsOfDevices other = ⊥

module _ {D : Type 0} (disk : DiskGhosts D) where
  -- what the registry's disk last returned refuses the run, and where it is observable that is its file
  pub record IsOfFile (asked : ℕ) (registry kept : D) (why : ColdRefusal) : Type 0 where
    pub says : says asked (view_in (disk.control kept).last_read) ≡ Some why
    pub file : IsTrue (disk.content registry).is_observable
        → (disk.content registry).files Registry ≡ Some (disk.control kept).last_read

module _ {D S M : Type 0} (disk : DiskGhosts D) (meta : MetaGhosts M) where
  -- a device failed, of those that were passed in unarmed and came back so
  pub record DeviceFailed (devices back : Devices D S M) : Type 0 where
    pub disks : AllLast disk.control devices.disks.items back.disks.items
    pub notes : Lasts (meta.control devices.meta) (meta.control back.meta)
    pub one : OneFailed disk.control devices.disks.items back.disks.items
        ⊎ Rose (meta.control devices.meta).faults (meta.control back.meta).faults

  -- a partition's run with so many brokers was refused for this: with its devices passed in, and given back
  abbrev pub IsRunRefused : ℕ → Devices D S M → D → Devices D S M → D → ColdRefusal → Type 0
  IsRunRefused asked devices registry back kept cold.RegistryFault = 0 < (disk.control kept).faults
  IsRunRefused asked devices registry back kept cold.DeviceFault = DeviceFailed devices back
  IsRunRefused asked devices registry back kept (cold.BadRegistry at) =
      IsOfFile disk asked registry kept (cold.BadRegistry at)
  IsRunRefused asked devices registry back kept (cold.Brokers k a) =
      IsOfFile disk asked registry kept (cold.Brokers k a)
  IsRunRefused asked devices registry back kept cold.NoMemory = Unit {0}
