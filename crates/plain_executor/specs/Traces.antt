-- What is reported of a journal: that it is a run, or its first entry that is no step.
use Rattle.std.specs.Prelude.{◌≡◌, ℕ, List, Option, Some, None, slice_get, take}
use Rattle.plain_log.specs.declared.command.ActorList.{ActorList}
use Rattle.plain_log.specs.declared.command.Config.{Config}
use Rattle.plain_log.specs.declared.journal.JournalEntry.{JournalEntry}
use Rattle.plain_log.specs.declared.state.State.{State}
use Rattle.plain_log.specs.Fresh.{fresh}
use Rattle.plain_log.specs.Runs.{replay, entry_step, IsPlainRun}

-- the entries before this place are a run, and the one that is there is no step after it
pub record IsFirstRefused (config : Config) (lists : List ActorList) (journal : List JournalEntry)
    (place : ℕ) : Type 0 where
  pub state : State
  pub entry : JournalEntry
  pub run : replay lists (fresh config) (take place journal) ≡ Some state
  pub entry_is : slice_get journal place ≡ Some entry
  pub refused : entry_step lists state entry ≡ None

-- the journal is a run, or it has a first entry that is no step
abbrev pub IsRunVerdict : Config → List ActorList → List JournalEntry → Option ℕ → Type 0
IsRunVerdict config lists journal None = IsPlainRun config lists journal
IsRunVerdict config lists journal (Some place) = IsFirstRefused config lists journal place

-- the entries before this place lead from p to q, and the one that is there is no step after q
pub record IsRefusedAt (lists : List ActorList) (p : State) (journal : List JournalEntry) (q : State)
    (place : ℕ) : Type 0 where
  pub entry : JournalEntry
  pub run : replay lists p (take place journal) ≡ Some q
  pub entry_is : slice_get journal place ≡ Some entry
  pub refused : entry_step lists q entry ≡ None

-- the journal leads from p to q, or its entries before the first that is no step do
abbrev pub JournalReaches : List ActorList → State → List JournalEntry → State → Option ℕ → Type 0
JournalReaches lists p journal q None = replay lists p journal ≡ Some q
JournalReaches lists p journal q (Some place) = IsRefusedAt lists p journal q place
