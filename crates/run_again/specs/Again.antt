-- Runs over an environment one after another.
--
--   form                 says
--   StandsIn n held p q  what the environment provides of the partition, with so many disks, represents the state q
--   RunsFromState .. q journal  a run of the plain log from q; the environment holds what is left after it
--   RunsContinue         each run over an environment is so from each state that what the environment held represents
--   IsLedOn .. q         the environment holds what is left of a state to which commands lead from q
--   RefusalsContinue     a refused run leaves what represents the same state, or is so
use Rattle.std.specs.Prelude.{◌≡◌, ◌⊎◌, ℕ, List, None, Some, length, IsTrue}
use Rattle.tier_base.specs.declared.names.PartitionId.{PartitionId}
use Rattle.disk_model.specs.declared.disk.Disk.{Ghosts as DiskGhosts}
use Rattle.object_store.specs.declared.store.Store.{Ghosts as StoreGhosts}
use Rattle.meta_log.specs.declared.log.MetaLog.{Ghosts as MetaGhosts}
use Rattle.plain_log.specs.declared.command.Config.{Config}
use Rattle.plain_log.specs.declared.journal.JournalEntry.{JournalEntry}
use Rattle.plain_log.specs.declared.state.State.{State}
use Rattle.plain_log.specs.Fresh.{fresh}
use Rattle.plain_log.specs.Runs.{replay}
use Rattle.plain_log.specs.Safe.{PlainSafe}
use Rattle.device_yard.specs.declared.came.Came.{Came}
use Rattle.device_yard.specs.YardContent.{YardContent, HasTier}
use Rattle.partition_world.specs.declared.tier.Devices.{Devices}
use Rattle.script_lang.specs.declared.script.PartScript.{PartScript}
use Rattle.cold_state.specs.Cold.{cold_of}
use Rattle.cold_start.specs.Stands.{StandsFor}
use Rattle.run_yard.specs.Handed.{HandsDevices}
use Rattle.run_yard.specs.Reading.{file_in}
use Rattle.run_yard.specs.Run.{IsSafeRun}
use Rattle.run_yard.specs.Runs.{IsRunOnDevices}
use Rattle.run_yard.specs.Stopped.{RestsIn, IsStoppedIn}

module _ {D S M : Type 0} (disk : DiskGhosts D) (store : StoreGhosts S) (meta : MetaGhosts M) where
  -- whatever devices, so many disks among them, have what the environment holds of the partition, they represent this
  -- plain state
  abbrev pub StandsIn : ℕ → YardContent D S M → PartitionId → State → Type 0
  StandsIn count held partition q = (devices : Devices D S M) (registry : D) → length devices.disks.items ≡ count
      → HandsDevices disk store meta partition devices registry held
      → StandsFor disk store meta partition devices.disks.items devices.store devices.meta registry q

  -- the journal is a run of the plain log from this state, and the environment holds what is left of the state that it
  -- leads to
  pub record RunsFromState (config : Config) (part : PartScript) (held : YardContent D S M)
      (journal : List JournalEntry) (q : State) : Type 0 where
    pub log_run : IsSafeRun q part.lists journal
    pub stand : StandsIn config.brokers held part.partition (cold_of log_run.last)

  -- each run over an observable environment continues from each state that what was held represents, and else from the
  -- fresh one
  pub record ContinuesFromYard (config : Config) (part : PartScript) (was held : YardContent D S M)
      (journal : List JournalEntry) : Type 0 where
    pub from : (q : State) → StandsIn config.brokers was part.partition q → RunsFromState config part held journal q
    pub begun : file_in disk.content (was.registries part.partition) ≡ None
        → RunsFromState config part held journal (fresh config)

  abbrev pub RunsContinue : Type 0
  RunsContinue = (config : Config) (part : PartScript) (was held : YardContent D S M) (run : ℕ × List JournalEntry)
      (came : List Came)
      → IsRunOnDevices disk store meta config part was held run came → IsTrue was.is_observable
      → IsTrue held.is_observable → ContinuesFromYard config part was held run.1

  -- the environment holds what is left of a state with the safety rules, to which entries of the lists lead from this
  -- one
  pub record IsLedOn (config : Config) (part : PartScript) (held : YardContent D S M) (q : State) : Type 0 where
    pub journal : List JournalEntry
    pub last : State
    pub replays : replay part.lists q journal ≡ Some last
    pub safe : PlainSafe last
    pub stand : StandsIn config.brokers held part.partition (cold_of last)

  -- the partition has no registry, and no object and no metadata event: a run begins in the fresh state
  pub record IsUnbegun (held : YardContent D S M) (p : PartitionId) : Type 0 where
    pub file : file_in disk.content (held.registries p) ≡ None
    pub tierless : HasTier disk.content store.content meta.content held p → ⊥

  -- what the environment held of the partition represents a state: it does still, or it is led on from there
  pub record StaysOrIsLed (config : Config) (part : PartScript) (was held : YardContent D S M) : Type 0 where
    pub from : (q : State) → StandsIn config.brokers was part.partition q
        → StandsIn config.brokers held part.partition q ⊎ IsLedOn config part held q
    pub begun : IsUnbegun was part.partition
        → IsUnbegun held part.partition ⊎ IsLedOn config part held (fresh config)

  -- so it is with the partition at which a refused run stopped, and with each of which it left what is held as it was
  pub record RefusalsContinue : Type 0 where
    pub stopped : (config : Config) (part : PartScript) (was held : YardContent D S M)
        → IsStoppedIn disk store meta config part was held → StaysOrIsLed config part was held
    pub rests : (config : Config) (part : PartScript) (was held : YardContent D S M)
        → RestsIn disk store meta part.partition was held → StaysOrIsLed config part was held
