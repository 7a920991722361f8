-- A trace that is written as a program's headline says is a whole run.
use Rattle.std.specs.Prelude.{◌≡◌, ℕ, List, [], ◌∷◌, length, All, Ok}
use Rattle.plain_log.specs.declared.command.Config.{Config}
use Rattle.plain_log.specs.declared.journal.JournalEntry.{JournalEntry}
use Rattle.plain_log.specs.declared.state.State.{State}
use Rattle.plain_log.specs.Runs.{IsComplete}
use Rattle.script_lang.specs.declared.script.PartScript.{PartScript}
use Rattle.script_lang.specs.declared.script.Script.{Script}
use Rattle.script_lang.specs.Fit.{IsFit}
use Rattle.script_lang.specs.Script.{script_in}
use Rattle.trace_text.specs.Entries.{IsEntry}
use Rattle.trace_text.specs.Trace.{trace_of}
use Rattle.trace_check.specs.Whole.{opening, states_left, IsRunFrom, IsWholeTrace}

-- a partition's number and journal: a run of the plain log over the partition's lists, from this state of as many
-- brokers, which answers every command of every list, and each of whose entries can be read back
pub record IsJournalFrom (config : Config) (p : State) (part : PartScript) (run : ℕ × List JournalEntry) : Type 0 where
  pub partition : run.0 ≡ part.partition.0
  pub brokers : length p.brokers ≡ config.brokers
  pub plain : IsRunFrom p part.lists run.1
  pub complete : IsComplete part.lists run.1
  pub entries : All IsEntry run.1

-- each partition has its run, from where the runs before it ended
abbrev pub AreRunsOf : Config → List State → List PartScript → List (ℕ × List JournalEntry) → Type 0
AreRunsOf config states [] [] = Unit {0}
AreRunsOf config states (part ∷ parts) (run ∷ runs) =
    IsJournalFrom config (opening config states part.partition.0) part run × AreRunsOf config states parts runs
AreRunsOf config states [] (run ∷ runs) = ⊥
AreRunsOf config states (part ∷ parts) [] = ⊥

-- the trace of a run of each partition is a whole run, also of a partition whose run is empty
abbrev pub RunsAreWhole : Type 0
RunsAreWhole = (bytes : List ℕ) (script : Script) (states : List State) (runs : List (ℕ × List JournalEntry))
    → script_in bytes ≡ Ok script → IsFit script
    → AreRunsOf script.config states script.parts runs
    → (after : List State) × IsWholeTrace states bytes (trace_of runs) after
