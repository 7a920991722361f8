-- The laws of what a join returns.
use Rattle.std.specs.Prelude.{◌≡◌, ◌≤◌, ℕ, List}
use Rattle.disk_model.specs.declared.disk.Disk.{Ghosts as DiskGhosts}
use Rattle.object_store.specs.declared.store.Store.{Ghosts as StoreGhosts}
use Rattle.meta_log.specs.declared.log.MetaLog.{Ghosts as MetaGhosts}
use Rattle.plain_log.specs.declared.answer.Answer.{Answer}
use Rattle.plain_log.specs.declared.command.ActorList.{ActorList}
use Rattle.plain_log.specs.declared.command.Command.TheVariants.{Join}
use Rattle.plain_log.specs.declared.command.Order.{Order}
use Rattle.plain_log.specs.declared.state.State.{State}
use Rattle.partition_commands.specs.Partition.{AtNode}
use Rattle.partition_world.specs.declared.actor_state.Outcome.TheVariants.{Answers}
use Rattle.partition_world.specs.declared.actor_state.ActorState.{ActorState}
use Rattle.partition_world.specs.Infallible.{IsUnfailing}
use Rattle.partition_world.specs.Central.{IsCentral}
use Rattle.partition_world.specs.Turn.{IsNextOrder, IsTurn}
use Rattle.partition_world.specs.Whole.{Whole}
use Rattle.laws_answers.specs.Turns.{turns_left}
use Rattle.laws_answers.specs.Chains.{times, IsCommandAnswered, RunsTurns}
use Rattle.laws_answers.specs.CausesOfJoins.{JoinHasCause, IsJoined}
use Rattle.laws_answers.specs.UnhinderedJoins.{IsFree, IsUnhindered}

module _ {D S M : Type 0} (disk : DiskGhosts D) (store : StoreGhosts S) (meta : MetaGhosts M) where
  -- a join's answer has its cause
  abbrev pub JoinsHaveCauses : Type 0
  JoinsHaveCauses = (opening : State) (w : Whole D S M) (a : ℕ) (answer : Answer) (w' : Whole D S M)
      → IsCentral disk store meta opening w → (t : IsTurn disk store meta w a (Answers answer) w') → t.order.command
      ≡ Join
      → AtNode w.partition_state t.order.broker.0
      (λ x. JoinHasCause disk store meta w t.order.broker.0 x t.actor_state.in_progress answer w')

  -- a join returns a cut or a restart, by as many of its actor's turns as it has left, where there is nothing in the
  -- way
  abbrev pub UnhinderedAreJoined : Type 0
  UnhinderedAreJoined =
      (opening : State) (w : Whole D S M) (a place : ℕ) (l : ActorList) (actor_state : ActorState) (order : Order)
      (actors : List ℕ) (w' : Whole D S M) → IsCentral disk store meta opening w
      → IsNextOrder w a place l actor_state order
      → order.command ≡ Join → RunsTurns disk store meta
      (IsUnhindered disk store meta place actor_state.number) w actors w'
      → turns_left Join actor_state.in_progress ≤ times a actors
      → (answer : Answer) × IsJoined answer × IsCommandAnswered w' l.actor actor_state.number answer

  -- over devices of which no call can fail that is where it may continue
  abbrev pub UnfailingAreJoined : Type 0
  UnfailingAreJoined =
      (opening : State) (w : Whole D S M) (a place : ℕ) (l : ActorList) (actor_state : ActorState) (order : Order)
      (actors : List ℕ) (w' : Whole D S M) → IsCentral disk store meta opening w → IsUnfailing disk store meta w
      → IsNextOrder w a place l actor_state order → order.command ≡ Join
      → RunsTurns disk store meta (IsFree disk store meta place actor_state.number) w actors w'
      → turns_left Join actor_state.in_progress ≤ times a actors
      → (answer : Answer) × IsJoined answer × IsCommandAnswered w' l.actor actor_state.number answer
