-- When a journal is a run of the plain log, and what it says of each actor's commands.
use Rattle.std.specs.Prelude.{◌≡◌, ℕ, zero, suc, ◌+◌, ◌==◌, List, [], ◌∷◌, length}
use Rattle.std.specs.Prelude.{Option, Some, if◌then◌else◌, slice_get}
use Rattle.std.specs.Option.{option_and_then}
use Rattle.plain_log.specs.declared.command.Order.{Order}
use Rattle.plain_log.specs.declared.command.ActorList.{ActorList}
use Rattle.plain_log.specs.declared.command.Config.{Config}
use Rattle.plain_log.specs.declared.journal.Event.{Event}
use Rattle.plain_log.specs.declared.journal.Event.TheVariants.{Begins, Answers}
use Rattle.plain_log.specs.declared.journal.JournalEntry.{JournalEntry}
use Rattle.plain_log.specs.declared.state.State.{State}
use Rattle.plain_log.specs.Step.{step}
use Rattle.plain_log.specs.Fresh.{fresh}

-- an actor's orders: none where it has no list
abbrev pub orders_of : List ActorList → ℕ → List Order
orders_of [] a = []
orders_of (l ∷ lists) a = if l.actor.0 == a then l.orders else orders_of lists a

-- the order that an entry is about
abbrev pub order_of : List ActorList → JournalEntry → Option Order
order_of lists entry = slice_get (orders_of lists entry.actor.0) entry.number

-- the state after an entry
abbrev pub entry_step : List ActorList → State → JournalEntry → Option State
entry_step lists p entry = option_and_then (λ order. step p order entry) (order_of lists entry)

-- the state after a journal, or none where one of its entries isn't allowed
abbrev pub replay : List ActorList → State → List JournalEntry → Option State
replay lists p [] = Some p
replay lists p (entry ∷ journal) = option_and_then (λ q. replay lists q journal) (entry_step lists p entry)

-- the journal is a run of the plain log from its fresh state
pub record IsPlainRun (config : Config) (lists : List ActorList) (journal : List JournalEntry) : Type 0 where
  pub last : State
  pub replays : replay lists (fresh config) journal ≡ Some last

-- the number of an answered command, before further numbers
abbrev pub number_before : Event → ℕ → List ℕ → List ℕ
number_before (Begins cut) number rest = rest
number_before (Answers answer) number rest = number ∷ rest

-- the numbers of the actor's commands that the journal answers, in its order
abbrev pub answered : ℕ → List JournalEntry → List ℕ
answered a [] = []
answered a (entry ∷ journal) =
    if entry.actor.0 == a then number_before entry.event entry.number (answered a journal) else answered a journal

-- so many numbers from n on
abbrev pub numbers_from : ℕ → ℕ → List ℕ
numbers_from n zero = []
numbers_from n (suc count) = n ∷ numbers_from (n + 1) count

-- each actor's commands are answered from the first on, once and in order
abbrev pub IsInOrder : List JournalEntry → Type 0
IsInOrder journal = (a : ℕ) → answered a journal ≡ numbers_from 0 (length (answered a journal))

-- the same, and every command of every list is answered
abbrev pub IsComplete : List ActorList → List JournalEntry → Type 0
IsComplete lists journal = (a : ℕ) → answered a journal ≡ numbers_from 0 (length (orders_of lists a))
