-- The laws of how many turns a command takes.
use Rattle.std.specs.Prelude.{◌≡◌, ◌≢◌, ◌≤◌, ◌<◌, ℕ, ℤ, List, slice_get}
use Rattle.disk_model.specs.declared.disk.Disk.{Ghosts as DiskGhosts}
use Rattle.object_store.specs.declared.store.Store.{Ghosts as StoreGhosts}
use Rattle.meta_log.specs.declared.log.MetaLog.{Ghosts as MetaGhosts}
use Rattle.plain_log.specs.declared.answer.Answer.{Answer}
use Rattle.plain_log.specs.declared.command.ActorList.{ActorList}
use Rattle.plain_log.specs.declared.command.Command.TheVariants.{Offset}
use Rattle.plain_log.specs.declared.command.Order.{Order}
use Rattle.plain_log.specs.declared.command.Pace.{Pace}
use Rattle.plain_log.specs.declared.command.Which.TheVariants.{At}
use Rattle.plain_log.specs.Orders.{AreRising}
use Rattle.partition_world.specs.declared.actor_state.Outcome.{Outcome}
use Rattle.partition_world.specs.declared.actor_state.ActorState.{ActorState}
use Rattle.partition_world.specs.Reaches.{Reaches}
use Rattle.partition_world.specs.ActorStates.{actor_state_after, IsUnanswered}
use Rattle.partition_world.specs.Turn.{IsNextOrder, IsTurn}
use Rattle.partition_world.specs.Whole.{Whole}
use Rattle.laws_answers.specs.Turns.{turns_left, search_left}
use Rattle.laws_answers.specs.Chains.{times, turns_in, IsCommandAnswered, KnowsUpTo, RunsTurns}

module _ {D S M : Type 0} (disk : DiskGhosts D) (store : StoreGhosts S) (meta : MetaGhosts M) where
  -- a turn that isn't its command's last leaves fewer to come
  abbrev pub TurnsGoOn : Type 0
  TurnsGoOn = (w : Whole D S M) (a : ℕ) (outcome : Outcome) (w' : Whole D S M)
      (t : IsTurn disk store meta w a outcome w')
      → IsUnanswered outcome
      → turns_left t.order.command
      (actor_state_after t.actor_state outcome).in_progress < turns_left t.order.command t.actor_state.in_progress

  -- a turn leaves the other actors' states as they were
  abbrev pub OthersStay : Type 0
  OthersStay = (w : Whole D S M) (a : ℕ) (outcome : Outcome) (w' : Whole D S M)
      (t : IsTurn disk store meta w a outcome w')
      (place : ℕ) → place ≢ t.place → slice_get w'.desk place ≡ slice_get w.desk place

  -- a command is answered by as many of its actor's turns, whatever the devices, and whatever others come between
  abbrev pub CommandsAreAnswered : Type 0
  CommandsAreAnswered =
      (w : Whole D S M) (a place : ℕ) (l : ActorList) (actor_state : ActorState) (order : Order) (actors : List ℕ)
      (w' : Whole D S M) → AreRising w.lists → IsNextOrder w a place l actor_state order
      → RunsTurns disk store meta (λ v b u. Unit {0}) w actors w'
      → turns_left order.command actor_state.in_progress ≤ times a actors
      → (answer : Answer) × IsCommandAnswered w' l.actor actor_state.number answer

  -- a timestamp lookup is so by fewer, where its broker knows no high watermark past a mark at any of them
  abbrev pub SearchesAreAnswered : Type 0
  SearchesAreAnswered = (w : Whole D S M) (a place : ℕ) (l : ActorList) (actor_state : ActorState) (order : Order)
      (ts : ℤ) (mark : ℕ)
      (actors : List ℕ) (w' : Whole D S M) → AreRising w.lists → IsNextOrder w a place l actor_state order
      → order.command ≡ Offset (At ts)
      → RunsTurns disk store meta (KnowsUpTo mark place actor_state.number) w actors w'
      → search_left mark actor_state.in_progress ≤ times a actors
      → (answer : Answer) × IsCommandAnswered w' l.actor actor_state.number answer

  -- a schedule that gives its actor as many turns answers it
  abbrev pub SchedulesAnswerCommands : Type 0
  SchedulesAnswerCommands = (w : Whole D S M) (a place : ℕ) (l : ActorList) (actor_state : ActorState) (order : Order)
      (schedule : List Pace) (w' : Whole D S M) → AreRising w.lists → IsNextOrder w a place l actor_state order
      → Reaches disk store meta w schedule w'
      → turns_left order.command actor_state.in_progress ≤ turns_in a schedule
      → (answer : Answer) × IsCommandAnswered w' l.actor actor_state.number answer
