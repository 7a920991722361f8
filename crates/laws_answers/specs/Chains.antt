-- Turns of several actors, and what a journal says of a command.
use Rattle.std.specs.Prelude.{◌≡◌, ◌≤◌, ℕ, ◌+◌, ◌==◌, if◌then◌else◌, List, [], ◌∷◌, ◌++◌}
use Rattle.tier_base.specs.declared.names.ActorId.{ActorId}
use Rattle.disk_model.specs.declared.disk.Disk.{Ghosts as DiskGhosts}
use Rattle.object_store.specs.declared.store.Store.{Ghosts as StoreGhosts}
use Rattle.meta_log.specs.declared.log.MetaLog.{Ghosts as MetaGhosts}
use Rattle.plain_log.specs.declared.answer.Answer.{Answer}
use Rattle.plain_log.specs.declared.command.ActorList.{ActorList}
use Rattle.plain_log.specs.declared.command.Order.{Order}
use Rattle.plain_log.specs.declared.command.Pace.{Pace}
use Rattle.plain_log.specs.declared.command.Pace.TheVariants.{Until, Times}
use Rattle.plain_log.specs.declared.journal.Event.TheVariants as event
use Rattle.plain_log.specs.declared.journal.JournalEntry.{JournalEntry}
use Rattle.partition_commands.specs.Partition.{AtNode}
use Rattle.partition_world.specs.declared.actor_state.ActorState.{ActorState}
use Rattle.partition_world.specs.Reaches.{TakesTurn}
use Rattle.partition_world.specs.Turn.{IsNextOrder}
use Rattle.partition_world.specs.Whole.{Whole}
use Rattle.laws_answers.specs.Faults.{CommandMeetsNoFault}

-- how many of these turns are the actor's
abbrev pub times : ℕ → List ℕ → ℕ
times a [] = 0
times a (b ∷ actors) = if b == a then 1 + times a actors else times a actors

-- how many turns a schedule gives the actor at least
abbrev pub turns_in : ℕ → List Pace → ℕ
turns_in a [] = 0
turns_in a (Until actor number ∷ schedule) = turns_in a schedule
turns_in a (Times actor turns ∷ schedule) = (if actor.0 == a then turns else 0) + turns_in a schedule

module _ {D S M : Type 0} where
  -- the journal answers the actor's command of this number so
  pub record IsCommandAnswered (w : Whole D S M) (actor : ActorId) (number : ℕ) (answer : Answer) : Type 0 where
    pub before : List JournalEntry
    pub after : List JournalEntry
    pub is : w.journal.items
        ≡ before ++ record { actor = actor; number = number; event = event.Answers answer } ∷ after

  -- where the actor's next turn is one of the command at this place, under this number, this holds of its state and
  -- its order
  abbrev pub AtTurnsOf : ℕ → ℕ → Whole D S M → ℕ → (ActorState → Order → Type 0) → Type 0
  AtTurnsOf place number w a P =
      (l : ActorList) (actor_state : ActorState) (order : Order) → IsNextOrder w a place l actor_state order
      → actor_state.number ≡ number → P actor_state order

  -- its broker knows no high watermark past a mark in it
  abbrev pub KnowsUpTo : ℕ → ℕ → ℕ → Whole D S M → ℕ → Whole D S M → Type 0
  KnowsUpTo mark place number w a w' = AtTurnsOf place number w a
      (λ actor_state order. AtNode w.partition_state order.broker.0 (λ x. x.known_high_watermark ≤ mark))

module _ {D S M : Type 0} (disk : DiskGhosts D) (store : StoreGhosts S) (meta : MetaGhosts M) where
  -- no call of a device fails in it
  abbrev pub TurnMeetsNoFault : ℕ → ℕ → Whole D S M → ℕ → Whole D S M → Type 0
  TurnMeetsNoFault place number w a w' =
      AtTurnsOf place number w a (λ actor_state order. CommandMeetsNoFault disk store meta order.broker.0 w w')

  -- turns of these actors, one after another, of each of which this holds
  abbrev pub RunsTurns : (Whole D S M → ℕ → Whole D S M → Type 0) → Whole D S M → List ℕ → Whole D S M → Type 0
  RunsTurns P w [] w' = w' ≡ w
  RunsTurns P w (a ∷ actors) w' =
      (v : Whole D S M) × TakesTurn disk store meta w a v × P w a v × RunsTurns P v actors w'
