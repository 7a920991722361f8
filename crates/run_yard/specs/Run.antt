-- What came of a partition's run, over devices of any kind.
use Rattle.std.specs.Prelude.{◌≡◌, ℕ, false, List, length, Some}
use Rattle.std.specs.List.{AllByRecursion}
use Rattle.disk_model.specs.declared.disk.Disk.{Ghosts as DiskGhosts}
use Rattle.object_store.specs.declared.store.Store.{Ghosts as StoreGhosts}
use Rattle.meta_log.specs.declared.log.MetaLog.{Ghosts as MetaGhosts}
use Rattle.plain_log.specs.declared.command.ActorList.{ActorList}
use Rattle.plain_log.specs.declared.command.Config.{Config}
use Rattle.plain_log.specs.declared.journal.JournalEntry.{JournalEntry}
use Rattle.plain_log.specs.declared.state.State.{State}
use Rattle.plain_log.specs.Committed.{IsCommittedRun, IsRunOfPath}
use Rattle.plain_log.specs.Runs.{IsComplete, replay}
use Rattle.plain_log.specs.Safe.{PlainSafe}
use Rattle.laws_answers.specs.Counted.{FaultsAreCounted}
use Rattle.laws_answers.specs.Told.{FaultsAreTold}
use Rattle.laws_answers.specs.Damage.{MeetsNoDamage}
use Rattle.partition_commands.specs.Fresh.{AreDisksOf}
use Rattle.partition_world.specs.declared.tier.Devices.{Devices}
use Rattle.partition_world.specs.Left.{IsCentralLeft}
use Rattle.partition_world.specs.InTurn.{IsInTurn}
use Rattle.partition_world.specs.Reaches.{Reaches}
use Rattle.partition_world.specs.Whole.{Whole}
use Rattle.cold_state.specs.Cold.{cold_of}
use Rattle.cold_start.specs.Moments.{RunsThrough}
use Rattle.cold_start.specs.Opening.{IsPartitionOpened}
use Rattle.cold_start.specs.Running.{Running}
use Rattle.cold_start.specs.Stands.{StandsFor}
use Rattle.script_lang.specs.declared.script.PartScript.{PartScript}
use Rattle.trace_text.specs.Trace.{journal_text}
use Rattle.run_yard.specs.Opens.{MayBeginIn}

-- A run of the plain log from a state, which ends with the safety rules: each fetch is given a part of the log of a
-- leader epoch as the run ends, and while elections are clean of what is committed then; no command is answered
-- `Damaged`.
pub record IsSafeRun (opening : State) (lists : List ActorList) (journal : List JournalEntry) : Type 0 where
  pub last : State
  pub replays : replay lists opening journal ≡ Some last
  pub safe : PlainSafe last
  pub led : AllByRecursion (IsRunOfPath lists last.paths) journal
  pub committed : last.unclean ≡ false → AllByRecursion (IsCommittedRun lists last.committed) journal
  pub undamaged : MeetsNoDamage journal

-- each command is answered once and in order, and begins at most once, right before its answer
pub record IsOrderly (lists : List ActorList) (journal : List JournalEntry) : Type 0 where
  pub complete : IsComplete lists journal
  pub in_turn : IsInTurn lists journal

module _ {D S M : Type 0} (disk : DiskGhosts D) (store : StoreGhosts S) (meta : MetaGhosts M) where
  -- these are the devices of a world
  pub record AreDevicesOf (w : Whole D S M) (disks : List D) (s : S) (m : M) : Type 0 where
    pub disks_are : AreDisksOf w.partition_state.nodes disks
    pub store_is : s ≡ w.tier.store
    pub meta_is : m ≡ w.tier.meta

  -- The journal is that of a world which the partition's schedule reaches from the one that was opened over the
  -- devices, and the devices that come back are that world's, which have counted each fault that it reports and no
  -- other. A power cut at any moment of the run's steps leaves the state before or after the step that it comes in. For
  -- each plain state in which a run may begin over the devices that were passed in, it is a run of the plain log from
  -- there, and the devices that come back represent what is left of the state that it leads to.
  pub record IsRunOver (config : Config) (part : PartScript) (devices : Devices D S M) (registry : D)
      (journal : List JournalEntry)
      (back : Devices D S M) (kept : D) : Type 0 where
    pub first : Running D S M
    pub last : Running D S M
    pub starts : IsPartitionOpened disk store meta part.partition config part.lists devices.disks.items devices.store
        devices.meta registry first
    pub reaches : Reaches disk store meta first.world part.schedule last.world
    pub through : RunsThrough disk store meta first last
    pub its : last.world.journal.items ≡ journal
    pub orderly : IsOrderly part.lists journal
    pub its_devices : AreDevicesOf last.world back.disks.items back.store back.meta
    pub its_registry : kept ≡ last.reg
    pub count : length back.disks.items ≡ config.brokers
    pub counted : FaultsAreCounted disk store meta first.world last.world
    pub told : FaultsAreTold disk store meta first.world last.world
    pub log_run : (p : State) → MayBeginIn disk store meta part.partition config devices registry p
        → IsSafeRun p part.lists journal
    pub central : (p : State) → MayBeginIn disk store meta part.partition config devices registry p
        → IsCentralLeft disk store meta p last.world
    pub stand : (p : State) (at : MayBeginIn disk store meta part.partition config devices registry p)
        → StandsFor disk store meta part.partition back.disks.items back.store back.meta kept
        (cold_of (log_run p at).last)

  -- the text is the trace of such a run
  pub record IsRunText (config : Config) (part : PartScript) (devices : Devices D S M) (registry : D) (text : List ℕ)
      (back : Devices D S M) (kept : D) : Type 0 where
    pub journal : List JournalEntry
    pub run : IsRunOver config part devices registry journal back kept
    pub spelled : text ≡ journal_text part.partition.0 journal
