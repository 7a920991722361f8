-- What the devices of a partition represent while it isn't open, and what a power cut leaves of those of one that is.
--
--   form                   says
--   StandsFor .. p         the devices, with whatever metadata events a power cut may leave, are those of the state p
--   IsBlank ..             they hold nothing of a partition: no registry, no object and no metadata event
--   MayBeLeft w reg ..        a power cut of everything may leave these devices of an open partition
--   LeavesCold w reg       whatever it leaves represents what is left of the plain state that the journal has come to
--   LeavesOneOf w v reg    for that of one world or that of the other
use Rattle.std.specs.Prelude.{◌≡◌, ◌⊎◌, List, None, IsTrue}
use Rattle.tier_base.specs.declared.names.PartitionId.{PartitionId}
use Rattle.tier_base.specs.declared.plain.FileName.TheVariants.{Registry as RegistryName}
use Rattle.disk_model.specs.declared.disk.Disk.{Ghosts as DiskGhosts}
use Rattle.object_store.specs.declared.store.Store.{Ghosts as StoreGhosts}
use Rattle.segment_meta.specs.declared.note.Note.{Note}
use Rattle.meta_log.specs.declared.log.MetaLog.{Ghosts as MetaGhosts}
use Rattle.meta_log.specs.Content.{Left}
use Rattle.plain_log.specs.declared.state.State.{State}
use Rattle.registry_disk.specs.Keeping.{HasFile}
use Rattle.partition_world.specs.Cold.{StandCold}
use Rattle.partition_world.specs.Fresh.{IsEmptyStore, IsEmptyLog}
use Rattle.partition_world.specs.Left.{IsCentralLeft}
use Rattle.partition_world.specs.Whole.{Whole}
use Rattle.cold_state.specs.Cold.{cold_of}
use Rattle.cold_start.specs.ColdWorld.{IsCutDisk, IsCutStore, IsCutLog, LeaveDisks, plain_in}

module _ {D S M : Type 0} (disk : DiskGhosts D) (store : StoreGhosts S) (meta : MetaGhosts M) where
  -- The registry's file reads as the plain state's registry, and with it the brokers' disks, the store and the metadata
  -- log are those of that state, with whatever metadata events a power cut now may leave.
  pub record StandsFor (partition : PartitionId) (disks : List D) (s : S) (m : M) (reg : D) (p : State) : Type 0 where
    pub file_tells : IsTrue (disk.content reg).is_observable
    pub file : HasFile (disk.content reg).files p.registry
    pub stand : (l : List Note) → Left (meta.content m) l → StandCold disk store meta partition p.registry disks s m p l

  -- nothing of the partition was ever kept
  pub record IsBlank (s : S) (m : M) (reg : D) : Type 0 where
    pub file_tells : IsTrue (disk.content reg).is_observable
    pub file : (disk.content reg).files RegistryName ≡ None
    pub store_tells : IsTrue (store.content s).is_observable
    pub objects : IsEmptyStore (store.content s)
    pub meta_tells : IsTrue (meta.content m).is_observable
    pub notes : IsEmptyLog (meta.content m)

  -- a power cut of everything may leave these of an open partition's devices
  pub record MayBeLeft (w : Whole D S M) (reg : D) (disks : List D) (s : S) (m : M) (r : D) : Type 0 where
    pub logs : LeaveDisks disk.content w.partition_state.nodes disks
    pub objects : IsCutStore (store.content w.tier.store) (store.content s)
    pub notes : IsCutLog (meta.content w.tier.meta) (meta.content m)
    pub file : IsCutDisk (disk.content reg) (disk.content r)

  -- they represent what is left of the plain state that the journal has come to
  abbrev pub LeavesCold : State → Whole D S M → D → Type 0
  LeavesCold opening w reg = (c : IsCentralLeft disk store meta opening w) (disks : List D) (s : S) (m : M) (r : D)
      → MayBeLeft w reg disks s m r → StandsFor w.partition disks s m r (cold_of (plain_in disk store meta opening w c))

  -- they represent what is left of one plain state or of the other
  abbrev pub LeavesOneOf : State → Whole D S M → Whole D S M → D → Type 0
  LeavesOneOf opening v w reg = (b : IsCentralLeft disk store meta opening v)
      (c : IsCentralLeft disk store meta opening w)
      (disks : List D) (s : S) (m : M) (r : D) → MayBeLeft w reg disks s m r
      → StandsFor w.partition disks s m r (cold_of (plain_in disk store meta opening v b))
      ⊎ StandsFor w.partition disks s m r (cold_of (plain_in disk store meta opening w c))
