-- What a script's runs come to, a partition at a time.
use Rattle.std.specs.Prelude.{◌≡◌, ℕ, List, ◌++◌, All}
use Rattle.disk_model.specs.declared.disk.Disk.{Ghosts as DiskGhosts}
use Rattle.object_store.specs.declared.store.Store.{Ghosts as StoreGhosts}
use Rattle.meta_log.specs.declared.log.MetaLog.{Ghosts as MetaGhosts}
use Rattle.plain_log.specs.declared.command.Config.{Config}
use Rattle.plain_log.specs.Orders.{AreListsFor}
use Rattle.plain_log.specs.declared.journal.JournalEntry.{JournalEntry}
use Rattle.run_summary.specs.declared.told.Told.{Told}
use Rattle.script_lang.specs.declared.script.PartScript.{PartScript}
use Rattle.script_lang.specs.Fit.{StepsToEnds}
use Rattle.run_memory.specs.Run.{IsJournalOf}
use Rattle.tiered_call.specs.Headline.{AreRunsOf, IsRunSummary, AreRunSummaries}

module _ {D S M : Type 0} (disk : DiskGhosts D) (store : StoreGhosts S) (meta : MetaGhosts M) where
  -- this is what a run of the partition comes to
  pub record IsToldRun (config : Config) (part : PartScript) (told : Told) : Type 0 where
    pub run : ℕ × List JournalEntry
    pub is : IsJournalOf disk store meta config part run
    pub is_observable : IsRunSummary config part run told

  -- and this what runs of the partitions come to
  pub record AreToldRuns (config : Config) (parts : List PartScript) (told : List Told) : Type 0 where
    pub runs : List (ℕ × List JournalEntry)
    pub are : AreRunsOf disk store meta config parts runs
    pub tell : AreRunSummaries config parts runs told

  -- so far: the parts that were run, those that are left, and what the former came to
  pub record IsToldSoFar (config : Config) (parts rest : List PartScript) (told : List Told) : Type 0 where
    pub run : List PartScript
    pub all : run ++ rest ≡ parts
    pub told_are : AreToldRuns config run told
    pub fit : All (λ part. AreListsFor config part.lists) rest
    pub ends : All StepsToEnds rest
