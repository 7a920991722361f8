-- What an opening comes to.
--
--   form                 says
--   Starts .. t          it began at the beginning, over disks whose files it removed
--   Continues .. t       it began again with the registry that it read
--   IsPartitionOpened .. t        one of these
--   says asked view      what the registry's file makes of an opening that asks for so many brokers
--   OpeningHasCause .. why      a refusal comes of this
use Rattle.std.specs.Prelude.{◌≡◌, ◌≢◌, ◌≤◌, ◌⊎◌, ◌==◌, ℕ, List, [], ◌∷◌, length, false}
use Rattle.std.specs.Prelude.{if◌then◌else◌, Option, Some, None, Ok, Err, IsTrue}
use Rattle.std.specs.declared.result.Result.{Result}
use Rattle.tier_base.specs.Counts.{Rose}
use Rattle.tier_base.specs.Device.{Control, Lasts}
use Rattle.tier_base.specs.declared.fault.Trouble.{Trouble}
use Rattle.tier_base.specs.declared.fault.Trouble.TheVariants as trouble
use Rattle.tier_base.specs.declared.names.PartitionId.{PartitionId}
use Rattle.tier_base.specs.declared.plain.FileName.{FileName}
use Rattle.tier_base.specs.declared.plain.FileName.TheVariants.{Registry as RegistryName}
use Rattle.disk_model.specs.Call.{call_code}
use Rattle.disk_model.specs.Content.{Files}
use Rattle.disk_model.specs.declared.call.DiskCall.{DiskCall}
use Rattle.disk_model.specs.declared.disk.Disk.{Ghosts as DiskGhosts}
use Rattle.object_store.specs.declared.store.Store.{Ghosts as StoreGhosts}
use Rattle.meta_log.specs.declared.log.MetaLog.{Ghosts as MetaGhosts}
use Rattle.meta_log.specs.Content.{Keeps as KeepsNotes}
use Rattle.registry.specs.View.{registry_of}
use Rattle.registry.specs.declared.view.RegView.{RegView}
use Rattle.registry_file.specs.declared.refusal.RegFileRefusal.{RegFileRefusal}
use Rattle.registry_file.specs.declared.refusal.RegFileRefusal.TheVariants as file
use Rattle.registry_file.specs.Reading.{view_in}
use Rattle.plain_log.specs.declared.command.ActorList.{ActorList}
use Rattle.plain_log.specs.declared.command.Config.{Config}
use Rattle.registry_disk.specs.Keeping.{Replaces}
use Rattle.partition_commands.specs.Cold.{DisksReopen}
use Rattle.partition_commands.specs.Fresh.{OneFailed, AreDisksOf}
use Rattle.partition_commands.specs.declared.refusal.WorldRefusal.{WorldRefusal}
use Rattle.partition_commands.specs.declared.refusal.WorldRefusal.TheVariants as world
use Rattle.registry_disk.specs.declared.refusal.FindRefusal.{FindRefusal}
use Rattle.registry_disk.specs.declared.refusal.FindRefusal.TheVariants as find
use Rattle.partition_world.specs.Cold.{IsReopened}
use Rattle.partition_world.specs.Fresh.{IsFresh}
use Rattle.partition_world.specs.Whole.{Whole}
use Rattle.cold_start.specs.Running.{Running}
use Rattle.cold_start.specs.declared.refusal.ColdRefusal.{ColdRefusal}
use Rattle.cold_start.specs.declared.refusal.ColdRefusal.TheVariants.{RegistryFault, DeviceFault}
use Rattle.cold_start.specs.declared.refusal.ColdRefusal.TheVariants.{BadRegistry, Brokers, NoMemory}

module _ {D : Type 0} (control : D → Control call_code) where
  -- a disk's plan isn't in force, and no call is counted
  pub record IsUnarmed (disk : D) : Type 0 where
    pub unarmed : (control disk).armed ≡ false
    pub unmade : (kind : DiskCall) → (control disk).made kind ≡ 0

  abbrev pub AreUnarmed : List D → Type 0
  AreUnarmed [] = Unit {0}
  AreUnarmed (disk ∷ disks) = IsUnarmed disk × AreUnarmed disks

  -- disks some calls later
  abbrev pub AllLast : List D → List D → Type 0
  AllLast [] [] = Unit {0}
  AllLast (disk ∷ disks) (now ∷ nows) = Lasts (control disk) (control now) × AllLast disks nows
  AllLast [] (now ∷ nows) = ⊥
  AllLast (disk ∷ disks) [] = ⊥

-- the file is there no more, and the others are as they were
pub record IsGone (name : FileName) (old new : Files) : Type 0 where
  pub gone : new name ≡ None
  pub others : (n : FileName) → n ≢ name → new n ≡ old n

-- a refusal for what the registry's file says
abbrev pub IsRegistryRefusal : ColdRefusal → Type 0
IsRegistryRefusal RegistryFault = ⊥
IsRegistryRefusal DeviceFault = ⊥
IsRegistryRefusal (BadRegistry at) = Unit {0}
IsRegistryRefusal (Brokers kept asked) = Unit {0}
IsRegistryRefusal NoMemory = ⊥

-- the refusal of a registry's disk with this trouble, and of the other devices
abbrev pub refusal_of_registry : Trouble → ColdRefusal
refusal_of_registry trouble.Failed = RegistryFault
refusal_of_registry trouble.NoMemory = NoMemory

abbrev pub refusal_of_device : Trouble → ColdRefusal
refusal_of_device trouble.Failed = DeviceFault
refusal_of_device trouble.NoMemory = NoMemory

abbrev pub refusal_of_world : WorldRefusal → ColdRefusal
refusal_of_world world.DiskFault = DeviceFault
refusal_of_world world.NoMemory = NoMemory

-- the refusal of an opening whose registry couldn't be read so
abbrev pub refusal_of_find : FindRefusal → ColdRefusal
refusal_of_find find.Fault = RegistryFault
refusal_of_find (find.Bad at) = BadRegistry at
refusal_of_find find.NoMemory = NoMemory

-- what the registry's file makes of an opening that asks for so many brokers: a refusal, or none
abbrev pub says : ℕ → Result RegView RegFileRefusal → Option ColdRefusal
says asked (Err (file.Bad at)) = Some (BadRegistry at)
says asked (Ok view) = if view.brokers == asked then None else Some (Brokers view.brokers asked)

module _ {D S M : Type 0} (disk : DiskGhosts D) (store : StoreGhosts S) (meta : MetaGhosts M) where
  -- there was no registry: the world is fresh, over disks whose files were removed
  pub record Starts (partition : PartitionId) (config : Config) (lists : List ActorList) (disks : List D) (s : S)
      (m : M) (reg : D)
      (t : Running D S M) : Type 0 where
    pub none : IsTrue (disk.content reg).is_observable → (disk.content reg).files RegistryName ≡ None
    pub cleared : List D
    pub disks_last : AllLast disk.control disks cleared
    pub recorded : M
    pub notes : KeepsNotes (meta.content m) (meta.content recorded)
    pub notes_last : Lasts (meta.control m) (meta.control recorded)
    pub fresh : IsFresh disk store meta partition config lists cleared s recorded t.world

  -- the registry was read: the world is reopened with it, over the disks as they were
  pub record BeginsFromRegistry (partition : PartitionId) (config : Config) (lists : List ActorList) (disks : List D)
      (s : S) (m : M) (reg : D)
      (t : Running D S M) : Type 0 where
    pub view : RegView
    pub read : view_in (disk.control t.reg).last_read ≡ Ok view
    pub there : IsTrue (disk.content reg).is_observable → (disk.content reg).files RegistryName
        ≡ Some (disk.control t.reg).last_read
    pub count : view.brokers ≡ config.brokers
    pub recorded : M
    pub notes : KeepsNotes (meta.content m) (meta.content recorded)
    pub notes_last : Lasts (meta.control m) (meta.control recorded)
    pub reopened : IsReopened disk store meta partition config lists (registry_of view) disks s recorded t.world

  abbrev pub IsPartitionOpened : PartitionId → Config → List ActorList → List D → S → M → D → Running D S M → Type 0
  IsPartitionOpened partition config lists disks s m reg t =
      Starts partition config lists disks s m reg t ⊎ BeginsFromRegistry partition config lists disks s m reg t

module _ {D M : Type 0} (disk : DiskGhosts D) (meta : MetaGhosts M) where
  -- A refusal comes of this. The first device list is as it was passed in, the second as it is given back.
  pub record OpeningHasCause (config : Config) (disks : List D) (m : M) (reg : D) (nows : List D) (n : M) (r : D)
      (why : ColdRefusal)
      : Type 0 where
    pub registry_fault : why ≡ RegistryFault → Rose (disk.control reg).faults (disk.control r).faults
    pub device_fault : why ≡ DeviceFault → OneFailed disk.control disks nows
        ⊎ Rose (meta.control m).faults (meta.control n).faults
    pub bad_registry : (at : ℕ) → why ≡ BadRegistry at → says config.brokers (view_in (disk.control r).last_read)
        ≡ Some why
    pub brokers : (kept asked : ℕ) → why ≡ Brokers kept asked
        → says config.brokers (view_in (disk.control r).last_read) ≡ Some why
    -- what was returned is the file
    pub last_read : IsRegistryRefusal why → IsTrue (disk.content reg).is_observable
        → (disk.content reg).files RegistryName ≡ Some (disk.control r).last_read
    -- what the file says comes before all but a fault of its disk, and running out of memory
    pub told : IsTrue (disk.content reg).is_observable → (bytes : List ℕ) (said : ColdRefusal)
        → (disk.content reg).files RegistryName ≡ Some bytes → says config.brokers (view_in bytes) ≡ Some said
        → (why ≡ said) ⊎ ((why ≡ RegistryFault) ⊎ (why ≡ NoMemory))

module _ {D S M : Type 0} (disk : DiskGhosts D) (meta : MetaGhosts M) where
  -- what comes back with a refusal: after a device's fault no device is armed
  pub record DevicesComeBack (disks : List D) (s : S) (m : M) (reg : D) (nows : List D) (t : S) (n : M) (r : D)
      (why : ColdRefusal)
      : Type 0 where
    pub count : length nows ≡ length disks
    pub registry : Lasts (disk.control reg) (disk.control r)
    pub disks_last : why ≡ DeviceFault → AllLast disk.control disks nows
    pub store_same : why ≡ DeviceFault → t ≡ s
    pub notes_last : why ≡ DeviceFault → Lasts (meta.control m) (meta.control n)

module _ {D S M : Type 0} (disk : DiskGhosts D) where
  -- a fresh world whose registry couldn't be written is closed, and the disk has the registry's file or none
  pub record GivesBack (w : Whole D S M) (reg : D) (disks : List D) (s : S) (m : M) (r : D)
      (why : ColdRefusal) : Type 0 where
    pub disks_are : AreDisksOf w.partition_state.nodes disks
    pub again : DisksReopen disk.content w.partition_state.nodes disks
    pub store_is : s ≡ w.tier.store
    pub meta_is : m ≡ w.tier.meta
    pub count : length disks ≡ w.config.brokers
    pub some : 1 ≤ length w.partition_state.registry.replicas
    pub few : length w.partition_state.registry.replicas ≤ 8
    pub file : Replaces w.partition_state.registry (disk.content reg) (disk.content r)
    pub control : Lasts (disk.control reg) (disk.control r)
    pub cause : why ≡ RegistryFault → Rose (disk.control reg).faults (disk.control r).faults
    pub only : (why ≡ RegistryFault) ⊎ (why ≡ NoMemory)
