-- What a refused run leaves: of one partition over its devices, and of a script over an environment.
--
--   form                        says
--   IsLedFrom .. p              devices represent what is left of a state to which commands lead from p
--   WasStepped d r back kept    a partition was opened over these devices, and its steps led to those
--   IsRunStopped d r back kept     a run over these devices stopped, and left those
--   RestsIn p, AllTiersRest          what is held of a partition is as it was, and of all
--   IsStoppedIn part was held   the partition's run was refused over its devices, which are held again
--   AreStopped parts was held   the first partitions have their runs, and a refusal came then
--   IsStoppedSo parts was held  that, once the registries were read, or nothing was run
use Rattle.std.specs.Prelude.{◌≡◌, ◌≤◌, ◌⊎◌, ℕ, List, ◌∷◌, ◌++◌, Option, Some, None, length}
use Rattle.tier_base.specs.declared.names.BrokerId.{BrokerId}
use Rattle.tier_base.specs.declared.names.PartitionId.{PartitionId}
use Rattle.disk_model.specs.Content as files
use Rattle.disk_model.specs.Memory.{IsEmptyDisk}
use Rattle.disk_model.specs.declared.disk.Disk.{Ghosts as DiskGhosts}
use Rattle.object_store.specs.Content as stored
use Rattle.object_store.specs.Memory.{IsEmptyStore}
use Rattle.object_store.specs.declared.store.Store.{Ghosts as StoreGhosts}
use Rattle.meta_log.specs.Content as recorded
use Rattle.meta_log.specs.declared.log.MetaLog.{Ghosts as MetaGhosts}
use Rattle.plain_log.specs.declared.command.ActorList.{ActorList}
use Rattle.plain_log.specs.declared.command.Config.{Config}
use Rattle.plain_log.specs.declared.journal.JournalEntry.{JournalEntry}
use Rattle.plain_log.specs.declared.state.State.{State}
use Rattle.plain_log.specs.Fresh.{fresh}
use Rattle.plain_log.specs.Runs.{replay}
use Rattle.plain_log.specs.Safe.{PlainSafe}
use Rattle.device_yard.specs.declared.came.Came.{Came}
use Rattle.device_yard.specs.YardContent.{YardContent, IsEmptyLog}
use Rattle.partition_commands.specs.Fresh.{DisksTell}
use Rattle.partition_world.specs.declared.tier.Devices.{Devices}
use Rattle.script_lang.specs.declared.script.PartScript.{PartScript}
use Rattle.cold_state.specs.Cold.{cold_of}
use Rattle.cold_start.specs.Moments.{RunsThrough}
use Rattle.cold_start.specs.Opening.{IsPartitionOpened}
use Rattle.cold_start.specs.Running.{Running}
use Rattle.cold_start.specs.Stands.{StandsFor, IsBlank}
use Rattle.run_yard.specs.Handed.{HandsDevices}
use Rattle.run_yard.specs.Opens.{OpensFresh}
use Rattle.run_yard.specs.Reading.{OnlyReads, file_in}
use Rattle.run_yard.specs.Run.{AreDevicesOf}
use Rattle.run_yard.specs.Runs.{AreRunsIn}
use Rattle.run_yard.specs.Yard.{SameOf, OnlyOf, HoldsAll}

-- what is held of a disk is as it was; where there was none, one without files may be
abbrev pub DiskRests : {D : Type 0} → (D → files.Content) → Option D → Option D → Type 0
DiskRests disk None None = Unit {0}
DiskRests disk None (Some e) = IsEmptyDisk (disk e)
DiskRests disk (Some d) (Some e) = files.Keeps (disk d) (disk e)
DiskRests disk (Some d) None = ⊥

-- of a store, one without objects
abbrev pub StoreRests : {S : Type 0} → (S → stored.Content) → Option S → Option S → Type 0
StoreRests store None None = Unit {0}
StoreRests store None (Some t) = IsEmptyStore (store t)
StoreRests store (Some s) (Some t) = stored.Keeps (store s) (store t)
StoreRests store (Some s) None = ⊥

-- of a metadata log, one without metadata events
abbrev pub LogRests : {M : Type 0} → (M → recorded.Content) → Option M → Option M → Type 0
LogRests meta None None = Unit {0}
LogRests meta None (Some n) = IsEmptyLog (meta n)
LogRests meta (Some m) (Some n) = recorded.Keeps (meta m) (meta n)
LogRests meta (Some m) None = ⊥

module _ {D S M : Type 0} (disk : DiskGhosts D) (store : StoreGhosts S) (meta : MetaGhosts M) where
  -- a partition's devices represent this state
  abbrev pub StandAs : PartitionId → Devices D S M → D → State → Type 0
  StandAs partition devices registry p =
      StandsFor disk store meta partition devices.disks.items devices.store devices.meta registry p

  -- they represent what is left of a state with the safety rules, to which entries of the lists lead from p
  pub record IsLedFrom (partition : PartitionId) (lists : List ActorList) (devices : Devices D S M) (registry : D)
      (p : State) : Type 0 where
    pub journal : List JournalEntry
    pub last : State
    pub replays : replay lists p journal ≡ Some last
    pub safe : PlainSafe last
    pub stand : StandAs partition devices registry (cold_of last)

  -- The partition was opened over these devices, and steps led to those: a power cut at any moment of a step leaves
  -- the state before or after it.
  pub record WasStepped (config : Config) (part : PartScript) (devices : Devices D S M) (registry : D)
      (back : Devices D S M) (kept : D) : Type 0 where
    pub first : Running D S M
    pub last : Running D S M
    pub starts : IsPartitionOpened disk store meta part.partition config part.lists devices.disks.items devices.store
        devices.meta registry first
    pub through : RunsThrough disk store meta first last
    pub its_devices : AreDevicesOf disk store meta last.world back.disks.items back.store back.meta
    pub its_registry : kept ≡ last.reg

  -- A run over these devices stopped, before its first turn or after one, and left those. They represent each state
  -- that the devices represented, or what is left of one to which commands lead from there. Where the devices held
  -- nothing, they still do, or the run began in the fresh state. Unless they represent all that the devices
  -- represented, steps led to them.
  pub record IsRunStopped (config : Config) (part : PartScript) (devices : Devices D S M) (registry : D)
      (back : Devices D S M) (kept : D) : Type 0 where
    pub from : (p : State) → StandAs part.partition devices registry p
        → StandAs part.partition back kept p ⊎ IsLedFrom part.partition part.lists back kept p
    pub begun : DisksTell disk.content devices.disks.items
        → IsBlank disk store meta devices.store devices.meta registry
        → IsBlank disk store meta back.store back.meta kept
        ⊎ IsLedFrom part.partition part.lists back kept (fresh config)
    pub ran : ((p : State) → StandAs part.partition devices registry p → StandAs part.partition back kept p)
        ⊎ WasStepped config part devices registry back kept

  -- what is held of the partition is as it was
  pub record RestsIn (p : PartitionId) (old new : YardContent D S M) : Type 0 where
    pub disks : (b : BrokerId) → DiskRests disk.content (old.disks p b) (new.disks p b)
    pub objects : StoreRests store.content (old.stores p) (new.stores p)
    pub notes : LogRests meta.content (old.logs p) (new.logs p)
    pub file : DiskRests disk.content (old.registries p) (new.registries p)

  -- and of each
  abbrev pub AllTiersRest : YardContent D S M → YardContent D S M → Type 0
  AllTiersRest old new = (p : PartitionId) → RestsIn p old new

  -- A partition's run was refused once its devices were out: they had what the environment held before, and it holds
  -- now what came back.
  pub record IsStoppedIn (config : Config) (part : PartScript) (was held : YardContent D S M) : Type 0 where
    pub devices : Devices D S M
    pub registry : D
    pub back : Devices D S M
    pub kept : D
    pub given : length devices.disks.items ≡ config.brokers
    pub count : length back.disks.items ≡ config.brokers
    pub handed : HandsDevices disk store meta part.partition devices registry was
    pub begun : file_in disk.content (was.registries part.partition) ≡ None
        → OpensFresh disk store meta config devices registry (fresh config)
    pub stopped : IsRunStopped config part devices registry back kept
    pub holds : HoldsAll disk.content part.partition back kept held
    pub only : OnlyOf part.partition was held

  -- The first partitions have their runs, and of the others nothing had changed. Then nothing changed any more, or the
  -- next partition's run was refused.
  pub record AreStopped (config : Config) (parts : List PartScript) (was held : YardContent D S M) : Type 0 where
    pub front : List PartScript
    pub rest : List PartScript
    pub parts_are : front ++ rest ≡ parts
    pub mid : YardContent D S M
    pub runs : List (ℕ × List JournalEntry)
    pub came : List Came
    pub are : AreRunsIn disk store meta config was mid front runs came
    pub others : (p : PartitionId) → length front ≤ p.0 → SameOf p was mid
    pub end : AllTiersRest mid held
        ⊎ ((part : PartScript) × (more : List PartScript) × (rest ≡ part ∷ more) × IsStoppedIn config part mid held)

  -- nothing was run; or no registry refused the run, and the partitions were run so far
  abbrev pub IsStoppedSo : Config → List PartScript → YardContent D S M → YardContent D S M → Type 0
  IsStoppedSo config parts was held =
      OnlyReads disk.content store.content meta.content was held
      ⊎ ((found : YardContent D S M) × OnlyReads disk.content store.content meta.content was found
      × AreStopped config parts found held)
