-- A partition's run: its journal is one of the plain log, and that of a world which its schedule reaches.
--
-- The brokers' logs are on disks, and what they copy in a remote store, with metadata events in a metadata log.
use Rattle.std.specs.Prelude.{◌≡◌, ℕ, false, List}
use Rattle.std.specs.List.{AllByRecursion}
use Rattle.tier_base.specs.declared.names.PartitionId.{PartitionId}
use Rattle.disk_model.specs.declared.disk.Disk.{Ghosts as DiskGhosts}
use Rattle.object_store.specs.declared.store.Store.{Ghosts as StoreGhosts}
use Rattle.meta_log.specs.declared.log.MetaLog.{Ghosts as MetaGhosts}
use Rattle.plain_log.specs.declared.command.ActorList.{ActorList}
use Rattle.plain_log.specs.declared.command.Config.{Config}
use Rattle.plain_log.specs.declared.journal.JournalEntry.{JournalEntry}
use Rattle.plain_log.specs.Fresh.{fresh}
use Rattle.plain_log.specs.Runs.{IsPlainRun, IsComplete}
use Rattle.plain_log.specs.Committed.{IsCommittedRun, IsRunOfPath}
use Rattle.plain_log.specs.Safe.{PlainSafe}
use Rattle.partition_world.specs.Central.{IsCentral}
use Rattle.partition_world.specs.Whole.{Whole}
use Rattle.partition_world.specs.Fresh.{IsFresh, IsSeenEmpty}
use Rattle.partition_world.specs.InTurn.{IsInTurn}
use Rattle.partition_world.specs.Reaches.{Reaches}
use Rattle.laws_answers.specs.Counted.{FaultsAreCounted}
use Rattle.laws_answers.specs.Told.{FaultsAreTold}
use Rattle.laws_answers.specs.Damage.{MeetsNoDamage}
use Rattle.laws_answers.specs.ByPlan.{HaveFailedByPlan}
use Rattle.script_lang.specs.declared.fault.Fault.{Fault}
use Rattle.script_lang.specs.declared.script.PartScript.{PartScript}
use Rattle.run_memory.specs.Planned.{FaultsArePlanned}
use Rattle.run_memory.specs.Devices.{HaveFaults}

module _ {D S M : Type 0} (disk : DiskGhosts D) (store : StoreGhosts S) (meta : MetaGhosts M) where
  -- a fresh world whose logs, store and metadata log are empty, on devices of which those calls fail that the faults
  -- name
  pub record StartsWith (partition : PartitionId) (config : Config) (lists : List ActorList) (faults : List Fault)
      (w : Whole D S M)
      : Type 0 where
    pub disks : List D
    pub objects : S
    pub notes : M
    pub planned : HaveFaults disk store meta faults disks objects notes
    pub fresh : IsFresh disk store meta partition config lists disks objects notes w
    pub empty : IsSeenEmpty disk store meta w

  -- the journal is that of a world which the partition's schedule reaches from the fresh one over its faults; in it the
  -- central fact holds: its logs are the plain log's, and the remote tier beside them keeps its safety rules; its
  -- devices have counted each fault that is reported and no other, and of their calls those have failed that the plans
  -- name of those that were made
  pub record IsReached (config : Config) (part : PartScript) (journal : List JournalEntry) : Type 0 where
    pub first : Whole D S M
    pub last : Whole D S M
    pub starts : StartsWith part.partition config part.lists part.faults first
    pub reaches : Reaches disk store meta first part.schedule last
    pub central : IsCentral disk store meta (fresh config) last
    pub counted : FaultsAreCounted disk store meta first last
    pub told : FaultsAreTold disk store meta first last
    pub by_plan : HaveFailedByPlan disk store meta first last
    pub planned : FaultsArePlanned disk store meta part.faults last
    pub its : last.journal.items ≡ journal

  -- a partition's number and journal: a run of the plain log over the partition's lists, by its schedule, which ends
  -- with the safety rules; each command is answered once and in order, and begins at most once, right before its
  -- answer; each fetch is given a part of the log of a leader epoch as the run ends, and while elections are clean of
  -- what is committed then; no command is answered `Damaged`; and it is that of a world which the schedule reaches so
  pub record IsJournalOf (config : Config) (part : PartScript) (run : ℕ × List JournalEntry) : Type 0 where
    pub partition : run.0 ≡ part.partition.0
    pub plain : IsPlainRun config part.lists run.1
    pub safe : PlainSafe plain.last
    pub complete : IsComplete part.lists run.1
    pub in_turn : IsInTurn part.lists run.1
    pub led : AllByRecursion (IsRunOfPath part.lists plain.last.paths) run.1
    pub committed : plain.last.unclean ≡ false → AllByRecursion (IsCommittedRun part.lists plain.last.committed) run.1
    pub undamaged : MeetsNoDamage run.1
    pub reached : IsReached config part run.1
