-- The headline: whatever the script, the written trace is a run of the plain log, and a load's summary reports such
-- runs.
--
-- The brokers' logs are on disks, and what they copy in a remote store, with metadata events in a metadata log.
use Rattle.std.specs.Prelude.{◌≡◌, ℕ, List, [], ◌∷◌, Some, Ok, Err, IsOk}
use Rattle.std.specs.declared.option.Option.{Option}
use Rattle.std.specs.Io.KnownBytes.{Appends}
use Rattle.tier_base.specs.Stream.{ReadsWhole, AppendsFront}
use Rattle.disk_model.specs.declared.disk.Disk.{Ghosts as DiskGhosts}
use Rattle.object_store.specs.declared.store.Store.{Ghosts as StoreGhosts}
use Rattle.meta_log.specs.declared.log.MetaLog.{Ghosts as MetaGhosts}
use Rattle.plain_log.specs.declared.command.Config.{Config}
use Rattle.plain_log.specs.declared.journal.JournalEntry.{JournalEntry}
use Rattle.script_lang.specs.declared.refusal.Why.{Why}
use Rattle.script_lang.specs.declared.script.PartScript.{PartScript}
use Rattle.script_lang.specs.declared.script.Script.{Script}
use Rattle.script_lang.specs.Script.{script_in}
use Rattle.trace_text.specs.Trace.{trace_of}
use Rattle.run_summary.specs.declared.told.Told.{Told}
use Rattle.run_summary.specs.Told.{told_of, summary_text}
use Rattle.run_memory.specs.Run.{IsJournalOf}
use Rattle.run_threaded.specs.Traced.{IsRunByThreads}

-- this is what the partition's run comes to
abbrev pub IsRunSummary : Config → PartScript → ℕ × List JournalEntry → Told → Type 0
IsRunSummary config part run told = told_of config run.0 part.lists run.1 ≡ Some told

-- and this what the partitions' runs come to
abbrev pub AreRunSummaries : Config → List PartScript → List (ℕ × List JournalEntry) → List Told → Type 0
AreRunSummaries config [] [] [] = Unit {0}
AreRunSummaries config (part ∷ parts) (run ∷ runs) (one ∷ told) =
    IsRunSummary config part run one × AreRunSummaries config parts runs told
AreRunSummaries config parts runs told = ⊥

module _ {D S M : Type 0} (disk : DiskGhosts D) (store : StoreGhosts S) (meta : MetaGhosts M) where
  -- each partition has its run
  abbrev pub AreRunsOf : Config → List PartScript → List (ℕ × List JournalEntry) → Type 0
  AreRunsOf config [] [] = Unit {0}
  AreRunsOf config (part ∷ parts) (run ∷ runs) =
      IsJournalOf disk store meta config part run × AreRunsOf config parts runs
  AreRunsOf config [] (run ∷ runs) = ⊥
  AreRunsOf config (part ∷ parts) [] = ⊥

  -- the script is valid, and the text is the trace of a run of each of its partitions
  pub record IsTraceOfScript (bytes text : List ℕ) : Type 0 where
    pub script : Script
    pub read : script_in bytes ≡ Ok script
    pub runs : List (ℕ × List JournalEntry)
    pub are : AreRunsOf script.config script.parts runs
    pub spelled : text ≡ trace_of runs

  -- each partition has a run by some schedule
  abbrev pub AreRunsByThreads : Config → List PartScript → List (ℕ × List JournalEntry) → Type 0
  AreRunsByThreads config [] [] = Unit {0}
  AreRunsByThreads config (part ∷ parts) (run ∷ runs) =
      IsRunByThreads disk store meta config part run × AreRunsByThreads config parts runs
  AreRunsByThreads config [] (run ∷ runs) = ⊥
  AreRunsByThreads config (part ∷ parts) [] = ⊥

  -- the script is valid, and the text is the trace of such a run of each of its partitions
  pub record IsTraceByThreads (bytes text : List ℕ) : Type 0 where
    pub script : Script
    pub read : script_in bytes ≡ Ok script
    pub runs : List (ℕ × List JournalEntry)
    pub are : AreRunsByThreads script.config script.parts runs
    pub spelled : text ≡ trace_of runs

  -- the script is valid, and the text sums up a run of each of its partitions
  pub record IsSummary (bytes text : List ℕ) : Type 0 where
    pub script : Script
    pub read : script_in bytes ≡ Ok script
    pub runs : List (ℕ × List JournalEntry)
    pub are : AreRunsOf script.config script.parts runs
    pub told : List Told
    pub tell : AreRunSummaries script.config script.parts runs told
    pub spelled : text ≡ summary_text told

  -- a summary of the script was written
  pub record WritesSummary (script : List ℕ) (written_old written_new : Option (List ℕ)) : Type 0 where
    pub text : List ℕ
    pub summary : IsSummary script text
    pub written : Appends written_old written_new text

  -- the same, but that a front of the summary was written, and not all of it
  pub record WritesSummaryFront (script : List ℕ) (written_old written_new : Option (List ℕ)) : Type 0 where
    pub text : List ℕ
    pub summary : IsSummary script text
    pub written : AppendsFront written_old written_new text

-- which texts are traces of a script's bytes is given
module _ (Traces : List ℕ → List ℕ → Type 0) where
  -- the source was read to its end, and a trace of what it gave was written
  pub record WritesTrace (left_old left_new written_old written_new : Option (List ℕ)) : Type 0 where
    pub script : List ℕ
    pub read : ReadsWhole left_old left_new script
    pub text : List ℕ
    pub trace : Traces script text
    pub written : Appends written_old written_new text

  -- the same, but that a front of the trace was written, and not all of it
  pub record WritesFront (left_old left_new written_old written_new : Option (List ℕ)) : Type 0 where
    pub script : List ℕ
    pub read : ReadsWhole left_old left_new script
    pub text : List ℕ
    pub trace : Traces script text
    pub written : AppendsFront written_old written_new text

-- the source was read to its end, and what it gave is valid
pub record ReadsGood (left_old left_new : Option (List ℕ)) : Type 0 where
  pub script : List ℕ
  pub read : ReadsWhole left_old left_new script
  pub has : IsOk (script_in script)

-- the source was read to its end, this line of what it gave is the first that is invalid, and this is why
pub record ReadsBad (left_old left_new : Option (List ℕ)) (line : ℕ) (why : Why) : Type 0 where
  pub script : List ℕ
  pub read : ReadsWhole left_old left_new script
  pub refused : script_in script ≡ Err (line, why)
