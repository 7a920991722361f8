-- How the trace of a run by threads grows, a partition at a time.
use Rattle.std.specs.Prelude.{◌≡◌, ℕ, ◌+◌, List, ◌++◌, length, take}
use Rattle.disk_model.specs.declared.disk.Disk.{Ghosts as DiskGhosts}
use Rattle.object_store.specs.declared.store.Store.{Ghosts as StoreGhosts}
use Rattle.meta_log.specs.declared.log.MetaLog.{Ghosts as MetaGhosts}
use Rattle.plain_log.specs.declared.command.Config.{Config}
use Rattle.plain_log.specs.declared.journal.JournalEntry.{JournalEntry}
use Rattle.script_lang.specs.declared.script.PartScript.{PartScript}
use Rattle.trace_text.specs.Trace.{journal_text, trace_of}
use Rattle.run_threaded.specs.Traced.{IsThreadedRun}
use Rattle.tiered_call.specs.Headline.{AreRunsByThreads}

module _ {D S M : Type 0} (disk : DiskGhosts D) (store : StoreGhosts S) (meta : MetaGhosts M) where
  -- the text of a run of the partition at this place of the script follows what was there
  pub record AddsThreadedRun (script : List ℕ) (place : ℕ) (text new : List ℕ) : Type 0 where
    pub run : ℕ × List JournalEntry
    pub is : IsThreadedRun disk store meta script place run
    pub added : new ≡ text ++ journal_text run.0 run.1

  -- the text is that of a run of each partition
  pub record IsTextByThreads (config : Config) (parts : List PartScript) (text : List ℕ) : Type 0 where
    pub runs : List (ℕ × List JournalEntry)
    pub are : AreRunsByThreads disk store meta config parts runs
    pub spelled : text ≡ trace_of runs

  -- so far: the text is that of the partitions before this place, and there are as many others as runs left
  pub record IsSoFarByThreads (config : Config) (parts : List PartScript) (place left : ℕ)
      (text : List ℕ) : Type 0 where
    pub text_is : IsTextByThreads config (take place parts) text
    pub many : place + left ≡ length parts
