-- When a trace is a whole run of the plain log of a script, from the state that the runs before it left.
--
-- A trace has no line of a partition that nothing was asked of, and none of its own for the end of a partition. So the
-- journal of a partition without lines is the empty one.
use Rattle.std.specs.Prelude.{◌≡◌, ℕ, ◌<◌, ◌==◌, if◌then◌else◌, List, [], ◌∷◌, ◌++◌, length, All}
use Rattle.std.specs.Prelude.{Some, Ok, drop, map, slice_get, option_map, unwrap_or}
use Rattle.cold_state.specs.Cold.{cold_of}
use Rattle.plain_log.specs.declared.command.ActorList.{ActorList}
use Rattle.plain_log.specs.declared.command.Config.{Config}
use Rattle.plain_log.specs.declared.journal.JournalEntry.{JournalEntry}
use Rattle.plain_log.specs.declared.state.State.{State}
use Rattle.plain_log.specs.Fresh.{fresh}
use Rattle.plain_log.specs.Runs.{replay, IsComplete}
use Rattle.script_lang.specs.declared.script.PartScript.{PartScript}
use Rattle.script_lang.specs.declared.script.Script.{Script}
use Rattle.script_lang.specs.Script.{script_in}
use Rattle.trace_text.specs.Read.{AreParts}
use Rattle.trace_text.specs.Trace.{trace_of}

-- the journal of a partition
abbrev pub journal_of : List (ℕ × List JournalEntry) → ℕ → List JournalEntry
journal_of [] partition = []
journal_of (j ∷ journals) partition = if j.0 == partition then j.1 else journal_of journals partition

-- where a partition's run begins: in the state that the runs before it left, or in the fresh one where none had it
abbrev pub opening : Config → List State → ℕ → State
opening config states partition = unwrap_or (slice_get states partition) (fresh config)

-- the journal is a run of the plain log from this state
pub record IsRunFrom (p : State) (lists : List ActorList) (journal : List JournalEntry) : Type 0 where
  pub last : State
  pub replays : replay lists p journal ≡ Some last

-- the state has the script's brokers, and the partition's journal is a run from it over the partition's lists that
-- answers every command of every list
pub record HasRun (config : Config) (journals : List (ℕ × List JournalEntry)) (p : State)
    (part : PartScript) : Type 0 where
  pub brokers : length p.brokers ≡ config.brokers
  pub plain : IsRunFrom p part.lists (journal_of journals part.partition.0)
  pub complete : IsComplete part.lists (journal_of journals part.partition.0)

-- it has such a run from where its runs before ended
abbrev pub HasWholeRun : Config → List State → List (ℕ × List JournalEntry) → PartScript → Type 0
HasWholeRun config states journals part = HasRun config journals (opening config states part.partition.0) part

-- each partition of the script has its whole run, and no other has a journal: a script's partitions are numbered from 0
pub record AreWholeRuns (script : Script) (states : List State) (journals : List (ℕ × List JournalEntry)) : Type 0 where
  pub each : All (HasWholeRun script.config states journals) script.parts
  pub no_others : All (λ j. j.0 < length script.parts) journals

-- what a run from this state leaves once it has ended: its last state, as a power cut leaves it
abbrev pub left_of : State → List ActorList → List JournalEntry → State
left_of p lists journal = unwrap_or (option_map cold_of (replay lists p journal)) p

-- what a partition's run leaves
abbrev pub part_left : Config → List State → List (ℕ × List JournalEntry) → PartScript → State
part_left config states journals part =
    left_of (opening config states part.partition.0) part.lists (journal_of journals part.partition.0)

-- what the runs of a script's partitions leave; other partitions stay as they were
abbrev pub states_left : Script → List State → List (ℕ × List JournalEntry) → List State
states_left script states journals =
    map (part_left script.config states journals) script.parts ++ drop (length script.parts) states

-- this is what the script says, and these are the journals whose text the trace is
pub record IsInputRead (script trace : List ℕ) (said : Script) (journals : List (ℕ × List JournalEntry)) : Type 0 where
  pub script_is : script_in script ≡ Ok said
  pub are : AreParts journals
  pub spelled : trace ≡ trace_of journals

-- the script is valid, and the text is the trace of a whole run of each of its partitions, which leaves these states
pub record IsWholeTrace (states : List State) (script trace : List ℕ) (after : List State) : Type 0 where
  pub said : Script
  pub journals : List (ℕ × List JournalEntry)
  pub read : IsInputRead script trace said journals
  pub runs : AreWholeRuns said states journals
  pub left : after ≡ states_left said states journals
