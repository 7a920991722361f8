-- When a journal is complete, reported by counts: a list has a count for each actor by its number, and 0 past its end.
use Rattle.std.specs.Prelude.{◌≡◌, ◌↔◌, ℕ, List, length, slice_index}
use Rattle.plain_log.specs.declared.command.ActorList.{ActorList}
use Rattle.plain_log.specs.declared.command.Config.{Config}
use Rattle.plain_log.specs.declared.journal.JournalEntry.{JournalEntry}
use Rattle.plain_log.specs.declared.state.State.{State}
use Rattle.plain_log.specs.State.{actor_at}
use Rattle.plain_log.specs.Runs.{orders_of, answered, numbers_from, IsPlainRun, IsComplete}

-- each actor has so many orders
abbrev pub AreCounts : List ActorList → List ℕ → Type 0
AreCounts lists counts = (a : ℕ) → slice_index counts a ≡ length (orders_of lists a)

-- of each actor's commands so many are answered: the first ones, once and in order
abbrev pub AreAnswered : List JournalEntry → List ℕ → Type 0
AreAnswered journal counts = (a : ℕ) → answered a journal ≡ numbers_from 0 (slice_index counts a)

-- each actor is at the end of its list
abbrev pub AreAtEnd : List ActorList → State → Type 0
AreAtEnd lists p = (a : ℕ) → (actor_at p.actors a).number ≡ length (orders_of lists a)

-- the journal is a run of the plain log, and answers every command of every list
pub record IsCompleteRun (config : Config) (lists : List ActorList) (journal : List JournalEntry) : Type 0 where
  pub run : IsPlainRun config lists journal
  pub complete : IsComplete lists journal

-- a run is complete exactly where each actor is at the end of its list after it
abbrev pub RunsEndComplete : Type 0
RunsEndComplete =
    (config : Config) (lists : List ActorList) (journal : List JournalEntry) (run : IsPlainRun config lists journal)
    → IsComplete lists journal ↔ AreAtEnd lists run.last
