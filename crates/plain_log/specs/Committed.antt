-- What takes back what is committed, and what fetches are given: parts of the logs of leader epochs, and while
-- elections are clean of one committed list.
use Rattle.std.specs.Prelude.{◌≡◌, ℕ, ◌≤◌, Bool, true, false, Some, List, ◌∷◌, ◌++◌}
use Rattle.std.specs.List.{AllByRecursion}
use Rattle.tier_base.specs.declared.plain.Stop.{Stop}
use Rattle.log_terms.specs.Batch.{base_of, last_of}
use Rattle.log_terms.specs.Log.{IsConsecutive, joined}
use Rattle.plain_log.specs.declared.answer.Answer.TheVariants.{Run, OkAt}
use Rattle.plain_log.specs.declared.answer.Tier.{Tier}
use Rattle.plain_log.specs.declared.command.ActorList.{ActorList}
use Rattle.plain_log.specs.declared.command.Command.{Command}
use Rattle.plain_log.specs.declared.command.Command.TheVariants.{Fetch, Unclean}
use Rattle.plain_log.specs.declared.command.Order.{Order}
use Rattle.plain_log.specs.declared.journal.Event.{Event}
use Rattle.plain_log.specs.declared.journal.Event.TheVariants.{Answers}
use Rattle.plain_log.specs.declared.journal.JournalEntry.{JournalEntry}
use Rattle.plain_log.specs.declared.state.Path.{Path}
use Rattle.plain_log.specs.State.{path_of}
use Rattle.plain_log.specs.Runs.{order_of}

-- an unclean election is answered with a new leader epoch: what is committed starts again
abbrev pub restarts : Command → Event → Bool
restarts Unclean (Answers (OkAt n)) = true
restarts command event = false

-- the entry is no such answer
abbrev pub IsNoRestart : List ActorList → JournalEntry → Type 0
IsNoRestart lists entry =
    (order : Order) → order_of lists entry ≡ Some order → restarts order.command entry.event ≡ false

-- the bytes are batches of the log, one after another, from the one on that holds the offset
pub record IsPartAt (offset : ℕ) (bytes : List ℕ) (log : List (List ℕ)) : Type 0 where
  pub front : List (List ℕ)
  pub first : List ℕ
  pub others : List (List ℕ)
  pub rest : List (List ℕ)
  pub parts : log ≡ front ++ ((first ∷ others) ++ rest)
  pub is : bytes ≡ joined (first ∷ others)
  pub low : base_of first ≤ offset
  pub high : offset ≤ last_of first

-- where the entry answers a fetch with a run, the run is a part of the list
abbrev pub IsCommittedRun : List ActorList → List (List ℕ) → JournalEntry → Type 0
IsCommittedRun lists committed entry =
    (order : Order) (offset limit : ℕ) (tier : Tier) (size : ℕ) (stop : Stop) (bytes : List ℕ)
    → order_of lists entry ≡ Some order → order.command ≡ Fetch offset limit
    → entry.event ≡ Answers (Run tier size stop bytes)
    → IsPartAt offset bytes committed

-- one list of consecutive batches from offset 0 on, of which each run that a fetch was given is a part
pub record IsCommitted (lists : List ActorList) (journal : List JournalEntry) : Type 0 where
  pub committed : List (List ℕ)
  pub consecutive : IsConsecutive 0 committed
  pub runs : AllByRecursion (IsCommittedRun lists committed) journal

-- the bytes are batches of the log that a leader of some epoch has, from the one on that holds the offset
abbrev pub IsPartOfPath : List Path → ℕ → List ℕ → Type 0
IsPartOfPath paths offset bytes =
    (e : ℕ) × (log : List (List ℕ)) × (path_of paths e ≡ Some log) × IsPartAt offset bytes log

-- where the entry answers a fetch with a run, the run is a part of one of the paths
abbrev pub IsRunOfPath : List ActorList → List Path → JournalEntry → Type 0
IsRunOfPath lists paths entry =
    (order : Order) (offset limit : ℕ) (tier : Tier) (size : ℕ) (stop : Stop) (bytes : List ℕ)
    → order_of lists entry ≡ Some order → order.command ≡ Fetch offset limit
    → entry.event ≡ Answers (Run tier size stop bytes)
    → IsPartOfPath paths offset bytes

-- a list of consecutive batches from offset 0 on for each leader epoch; each run that a fetch was given is a part of
-- one
pub record IsLed (lists : List ActorList) (journal : List JournalEntry) : Type 0 where
  pub paths : List Path
  pub consecutive : (e : ℕ) (log : List (List ℕ)) → path_of paths e ≡ Some log → IsConsecutive 0 log
  pub runs : AllByRecursion (IsRunOfPath lists paths) journal
