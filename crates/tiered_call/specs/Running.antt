-- How the trace grows, a partition at a time.
use Rattle.std.specs.Prelude.{◌≡◌, ℕ, List, ◌++◌, All}
use Rattle.disk_model.specs.declared.disk.Disk.{Ghosts as DiskGhosts}
use Rattle.object_store.specs.declared.store.Store.{Ghosts as StoreGhosts}
use Rattle.meta_log.specs.declared.log.MetaLog.{Ghosts as MetaGhosts}
use Rattle.plain_log.specs.declared.command.Config.{Config}
use Rattle.plain_log.specs.Orders.{AreListsFor}
use Rattle.plain_log.specs.declared.journal.JournalEntry.{JournalEntry}
use Rattle.script_lang.specs.declared.script.PartScript.{PartScript}
use Rattle.script_lang.specs.Fit.{StepsToEnds}
use Rattle.trace_text.specs.Trace.{journal_text, trace_of}
use Rattle.run_memory.specs.Run.{IsJournalOf}
use Rattle.tiered_call.specs.Headline.{AreRunsOf}

module _ {D S M : Type 0} (disk : DiskGhosts D) (store : StoreGhosts S) (meta : MetaGhosts M) where
  -- the text of a run of the partition follows what was there
  pub record AddsRun (config : Config) (part : PartScript) (text new : List ℕ) : Type 0 where
    pub run : ℕ × List JournalEntry
    pub is : IsJournalOf disk store meta config part run
    pub added : new ≡ text ++ journal_text run.0 run.1

  -- the text is that of a run of each partition
  pub record IsTextOfScript (config : Config) (parts : List PartScript) (text : List ℕ) : Type 0 where
    pub runs : List (ℕ × List JournalEntry)
    pub are : AreRunsOf disk store meta config parts runs
    pub spelled : text ≡ trace_of runs

  -- so far: the parts that were run, those that are left, and the text of the former
  pub record IsSoFar (config : Config) (parts rest : List PartScript) (text : List ℕ) : Type 0 where
    pub run : List PartScript
    pub all : run ++ rest ≡ parts
    pub text_is : IsTextOfScript config run text
    pub fit : All (λ part. AreListsFor config part.lists) rest
    pub ends : All StepsToEnds rest
