-- What came of the run of a script over an environment.
use Rattle.std.specs.Prelude.{◌≡◌, ℕ, List, [], ◌∷◌, ◌++◌, None, All, IsTrue}
use Rattle.disk_model.specs.declared.disk.Disk.{Ghosts as DiskGhosts}
use Rattle.object_store.specs.declared.store.Store.{Ghosts as StoreGhosts}
use Rattle.meta_log.specs.declared.log.MetaLog.{Ghosts as MetaGhosts}
use Rattle.plain_log.specs.declared.command.Config.{Config}
use Rattle.plain_log.specs.Fresh.{fresh}
use Rattle.plain_log.specs.declared.journal.JournalEntry.{JournalEntry}
use Rattle.device_yard.specs.declared.came.Came.{Came}
use Rattle.device_yard.specs.Control.{Control}
use Rattle.device_yard.specs.YardContent.{YardContent}
use Rattle.partition_world.specs.declared.tier.Devices.{Devices}
use Rattle.script_lang.specs.declared.script.PartScript.{PartScript}
use Rattle.trace_text.specs.Trace.{journal_text, trace_of}
use Rattle.run_yard.specs.Handed.{HandsDevices}
use Rattle.run_yard.specs.Run.{IsRunOver}
use Rattle.run_yard.specs.Opens.{OpensFresh}
use Rattle.run_yard.specs.Reading.{OnlyReads, Suits, file_in}
use Rattle.run_yard.specs.Yard.{cames_of, HoldsAll, Uses, AllCameBack}

module _ {D S M : Type 0} (disk : DiskGhosts D) (store : StoreGhosts S) (meta : MetaGhosts M) where
  -- A partition's number and journal: it was run on devices that came back with these counts. Where the environment is
  -- observable, they had what it held before, and it holds now what came back; and where no registry was there, the run
  -- began in the fresh state.
  pub record IsRunOnDevices (config : Config) (part : PartScript) (was held : YardContent D S M)
      (run : ℕ × List JournalEntry) (came : List Came) : Type 0 where
    pub partition : run.0 ≡ part.partition.0
    pub devices : Devices D S M
    pub registry : D
    pub back : Devices D S M
    pub kept : D
    pub is : IsRunOver disk store meta config part devices registry run.1 back kept
    pub came_so : came ≡ cames_of disk store meta back kept
    pub handed : IsTrue was.is_observable → HandsDevices disk store meta part.partition devices registry was
    pub begun : IsTrue was.is_observable → file_in disk.content (was.registries part.partition) ≡ None
        → OpensFresh disk store meta config devices registry (fresh config)
    pub holds : IsTrue held.is_observable → HoldsAll disk.content part.partition back kept held

  -- the text is the trace of such a run, and each device that was provided is back
  pub record RunsIn (config : Config) (part : PartScript) (was held : YardContent D S M) (text : List ℕ)
      (old new : Control) : Type 0 where
    pub run : ℕ × List JournalEntry
    pub came : List Came
    pub is : IsRunOnDevices config part was held run came
    pub spelled : text ≡ journal_text run.0 run.1
    pub uses : Uses came old new

  -- each partition has its run
  abbrev pub AreRunsIn : Config → YardContent D S M → YardContent D S M → List PartScript → List (ℕ × List JournalEntry)
      → List Came → Type 0
  AreRunsIn config was held [] [] came = came ≡ []
  AreRunsIn config was held (part ∷ parts) (run ∷ runs) came =
      (front : List Came) × (rest : List Came) × (came ≡ front ++ rest) × IsRunOnDevices config part was held run front
      × AreRunsIn config was held parts runs rest
  AreRunsIn config was held [] (run ∷ runs) came = ⊥
  AreRunsIn config was held (part ∷ parts) [] came = ⊥

  -- the text is the trace of a run of each partition, and each device that was provided is back, in their order
  pub record IsTextOfRuns (config : Config) (parts : List PartScript) (was held : YardContent D S M) (text : List ℕ)
      (old new : Control) : Type 0 where
    pub runs : List (ℕ × List JournalEntry)
    pub came : List Came
    pub are : AreRunsIn config was held parts runs came
    pub spelled : text ≡ trace_of runs
    pub uses : Uses came old new

  -- The registries were read first, which changed nothing; none refused the run, and then the partitions were run.
  pub record IsReadAndRun (config : Config) (parts : List PartScript) (was held : YardContent D S M) (text : List ℕ)
      (old new : Control) : Type 0 where
    pub found : YardContent D S M
    pub asked : Control
    pub same : IsTrue was.is_observable → OnlyReads disk.content store.content meta.content was found
    pub suit : IsTrue was.is_observable → All
        (λ part. Suits disk.content store.content meta.content config.brokers found part.partition) parts
    pub read : AllCameBack old asked
    pub text_is : IsTextOfRuns config parts found held text asked new
