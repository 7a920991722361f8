-- What is reported of scripts and traces: that the traces are whole runs one after another, or the first that is none
-- and its first cause. The causes of one trace come in this order: the script's lines, the trace's lines, the script's
-- partitions as they rise, and partitions that it doesn't have.
use Rattle.std.specs.Prelude.{◌≡◌, ◌≢◌, ℕ, ◌+◌, ◌<◌, ◌≤◌, ◌==◌, if◌then◌else◌, List, [], ◌∷◌}
use Rattle.std.specs.Prelude.{◌++◌, length, All, Option, Some, None, Err, IsOk}
use Rattle.tier_base.specs.declared.names.PartitionId.{PartitionId}
use Rattle.plain_log.specs.declared.command.ActorList.{ActorList}
use Rattle.plain_log.specs.declared.command.Config.{Config}
use Rattle.plain_log.specs.declared.journal.JournalEntry.{JournalEntry}
use Rattle.plain_log.specs.declared.state.State.{State}
use Rattle.plain_log.specs.Runs.{IsComplete}
use Rattle.plain_executor.specs.Traces.{IsRefusedAt}
use Rattle.script_lang.specs.declared.script.PartScript.{PartScript}
use Rattle.script_lang.specs.declared.script.Script.{Script}
use Rattle.script_lang.specs.Script.{script_in}
use Rattle.trace_text.specs.Read.{IsBadLine}
use Rattle.trace_check.specs.declared.pair.Pair.{Pair}
use Rattle.trace_check.specs.declared.verdict.Flaw.{Flaw}
use Rattle.trace_check.specs.declared.verdict.Flaw.TheVariants.{BadScript, BadTrace, Brokers, NoStep}
use Rattle.trace_check.specs.declared.verdict.Flaw.TheVariants.{Unfinished, Unasked}
use Rattle.trace_check.specs.declared.verdict.Verdict.{Verdict}
use Rattle.trace_check.specs.declared.verdict.Verdict.TheVariants.{Whole, Flawed}
use Rattle.trace_check.specs.Chain.{LeadTo, AreWholeTraces}
use Rattle.trace_check.specs.Whole.{journal_of, opening, left_of, states_left, IsRunFrom, HasRun}
use Rattle.trace_check.specs.Whole.{HasWholeRun, AreWholeRuns, IsInputRead, IsWholeTrace}

-- the line of a partition's entry, from 1 on: a trace has a line for each entry of each journal
abbrev pub line_of : List (ℕ × List JournalEntry) → ℕ → ℕ → ℕ
line_of [] partition entry = entry + 1
line_of (j ∷ journals) partition entry =
    if j.0 == partition then entry + 1 else length j.1 + line_of journals partition entry

-- the partition has another count of brokers than the script asks for
pub record HasOthers (config : Config) (p : State) (kept asked : ℕ) : Type 0 where
  pub kept_is : kept ≡ length p.brokers
  pub asked_is : asked ≡ config.brokers
  pub differ : kept ≢ asked

-- the partition's entry at this place is the first that is no step from this state, and is in this line of the trace
pub record IsEntryRefused (journals : List (ℕ × List JournalEntry)) (p : State) (part : PartScript)
    (place line : ℕ) : Type 0 where
  pub state : State
  pub refused : IsRefusedAt part.lists p (journal_of journals part.partition.0) state place
  pub line_is : line ≡ line_of journals part.partition.0 place

-- the journal is a run from this state, but leaves a command without an answer
pub record IsUnfinished (p : State) (lists : List ActorList) (journal : List JournalEntry) : Type 0 where
  pub plain : IsRunFrom p lists journal
  pub lacks : ¬ IsComplete lists journal

-- what is found of a partition's journal
abbrev pub IsPartFlaw : Config → List (ℕ × List JournalEntry) → State → PartScript → Flaw → Type 0
IsPartFlaw config journals p part (Brokers partition kept asked) =
    (partition ≡ part.partition) × HasOthers config p kept asked
IsPartFlaw config journals p part (NoStep partition entry line) =
    (partition ≡ part.partition) × IsEntryRefused journals p part entry line
IsPartFlaw config journals p part (Unfinished partition) =
    (partition ≡ part.partition) × IsUnfinished p part.lists (journal_of journals part.partition.0)
IsPartFlaw config journals p part other = ⊥

-- the same, or that it is a whole run, and what this leaves
abbrev pub IsPartJudged : Config → List (ℕ × List JournalEntry) → State → PartScript → State → Option Flaw → Type 0
IsPartJudged config journals p part q None =
    HasRun config journals p part × (q ≡ left_of p part.lists (journal_of journals part.partition.0))
IsPartJudged config journals p part q (Some flaw) = IsPartFlaw config journals p part flaw

-- it is found of a partition of the script, and those before it have their whole runs
pub record HasPartFlaw (script : Script) (states : List State) (journals : List (ℕ × List JournalEntry))
    (flaw : Flaw) : Type 0 where
  pub before : List PartScript
  pub part : PartScript
  pub after : List PartScript
  pub parts : script.parts ≡ before ++ part ∷ after
  pub whole : All (HasWholeRun script.config states journals) before
  pub its : IsPartFlaw script.config journals (opening script.config states part.partition.0) part flaw

-- the same of all partitions of the script
abbrev pub ArePartsJudged : Script → List State → List (ℕ × List JournalEntry) → List State → Option Flaw → Type 0
ArePartsJudged script states journals after None =
    All (HasWholeRun script.config states journals) script.parts × (after ≡ states_left script states journals)
ArePartsJudged script states journals after (Some flaw) = HasPartFlaw script states journals flaw

-- this is the first journal of a partition that isn't among so many
pub record IsBeyond (count : ℕ) (journals : List (ℕ × List JournalEntry)) (partition : ℕ) : Type 0 where
  pub before : List (ℕ × List JournalEntry)
  pub journal : List JournalEntry
  pub after : List (ℕ × List JournalEntry)
  pub journals_are : journals ≡ before ++ (partition, journal) ∷ after
  pub within : All (λ j. j.0 < count) before
  pub beyond : count ≤ partition

-- the same, or that there is none
abbrev pub IsFirstBeyond : ℕ → List (ℕ × List JournalEntry) → Option PartitionId → Type 0
IsFirstBeyond count journals None = All (λ j. j.0 < count) journals
IsFirstBeyond count journals (Some partition) = IsBeyond count journals partition.0

-- the script's partitions have their whole runs, and this other one has a journal
pub record IsUnasked (script : Script) (states : List State) (journals : List (ℕ × List JournalEntry))
    (partition : ℕ) : Type 0 where
  pub each : All (HasWholeRun script.config states journals) script.parts
  pub first : IsBeyond (length script.parts) journals partition

-- what is found of journals
abbrev pub IsFlawFound : Script → List State → List (ℕ × List JournalEntry) → Flaw → Type 0
IsFlawFound script states journals (Unasked partition) = IsUnasked script states journals partition.0
IsFlawFound script states journals flaw = HasPartFlaw script states journals flaw

-- the same, or that they are whole runs, and what these leave
abbrev pub AreJudged : Script → List State → List (ℕ × List JournalEntry) → List State → Option Flaw → Type 0
AreJudged script states journals after None =
    AreWholeRuns script states journals × (after ≡ states_left script states journals)
AreJudged script states journals after (Some flaw) = IsFlawFound script states journals flaw

-- script and trace are read, and this is found of the journals
pub record HasFound (states : List State) (script trace : List ℕ) (flaw : Flaw) : Type 0 where
  pub said : Script
  pub journals : List (ℕ × List JournalEntry)
  pub read : IsInputRead script trace said journals
  pub found : IsFlawFound said states journals flaw

-- the first cause why the trace is no whole run of the script from these states
abbrev pub IsFlaw : List State → List ℕ → List ℕ → Flaw → Type 0
IsFlaw states script trace (BadScript line why) = script_in script ≡ Err (line, why)
IsFlaw states script trace (BadTrace line) = IsOk (script_in script) × IsBadLine trace line
IsFlaw states script trace flaw = HasFound states script trace flaw

-- the same, or that it is one, and what it leaves
abbrev pub IsPairJudged : List State → Pair → List State → Option Flaw → Type 0
IsPairJudged states pair after None = IsWholeTrace states pair.script pair.trace after
IsPairJudged states pair after (Some flaw) = IsFlaw states pair.script pair.trace flaw

-- the traces before this one are whole runs one after another, and this is the first cause why it is none from where
-- they ended
pub record IsFlawed (pairs : List Pair) (run : ℕ) (flaw : Flaw) : Type 0 where
  pub before : List Pair
  pub pair : Pair
  pub after : List Pair
  pub pairs_are : pairs ≡ before ++ pair ∷ after
  pub run_is : run ≡ length before + 1
  pub states : List State
  pub lead : LeadTo [] before states
  pub its : IsFlaw states pair.script pair.trace flaw

-- what is reported
abbrev pub IsVerdict : List Pair → Verdict → Type 0
IsVerdict pairs Whole = AreWholeTraces pairs
IsVerdict pairs (Flawed run flaw) = IsFlawed pairs run flaw
