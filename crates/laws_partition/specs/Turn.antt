-- The turns of a world.
use Rattle.std.specs.Prelude.{◌≡◌, ℕ, ◌+◌, ◌≤◌, Some, None, [], ◌∷◌, ◌++◌, length, slice_get, slice_set}
use Rattle.plain_log.specs.declared.answer.Answer.{Answer}
use Rattle.plain_log.specs.declared.command.ActorList.{ActorList}
use Rattle.plain_log.specs.declared.command.Command.{Command}
use Rattle.plain_log.specs.declared.command.Command.TheVariants.{Join}
use Rattle.plain_log.specs.declared.command.Order.{Order}
use Rattle.plain_log.specs.declared.journal.Event.{Event}
use Rattle.laws_partition.specs.declared.start_snapshot.StartSnapshot.{StartSnapshot}
use Rattle.laws_partition.specs.declared.start_snapshot.Turned.{Turned}
use Rattle.laws_partition.specs.declared.start_snapshot.Turned.TheVariants.{Answers, Begins}
use Rattle.laws_partition.specs.declared.actor_progress.ActorProgress.{ActorProgress}
use Rattle.laws_partition.specs.declared.actor_progress.Stepped.{Stepped}
use Rattle.laws_partition.specs.declared.actor_progress.Stepped.TheVariants.{Ran, Done, Nothing, NoMemory}
use Rattle.laws_partition.specs.Partition.{AtNode}
use Rattle.laws_partition.specs.Rows.{Row}
use Rattle.laws_partition.specs.Whole.{Whole}

-- the actor's list and its place at the desk
pub record IsActorAt (w : Whole) (a place : ℕ) (l : ActorList) (actor_state : ActorProgress) : Type 0 where
  pub list : slice_get w.lists place ≡ Some l
  pub actor : l.actor.0 ≡ a
  pub actor_state_is : slice_get w.desk place ≡ Some actor_state

-- the actor's state after a turn: the next order after an answer, else what the order has begun with
abbrev pub actor_state_after : ActorProgress → Turned → ActorProgress
actor_state_after actor_state (Answers answer) = record { number = actor_state.number + 1; snapshot = None }
actor_state_after actor_state (Begins g) = record { number = actor_state.number; snapshot = Some g }

-- what the journal says of a turn: of a join that begins also where the log was cut
abbrev pub event_of : Turned → Command → Event
event_of (Answers answer) command = Event.Answers answer
event_of (Begins g) Join = Event.Begins (Some g.end)
event_of (Begins g) command = Event.Begins None

-- a turn of the actor's next order, which begins or is answered, and is entered into the journal
pub record IsTurn (w : Whole) (a : ℕ) (turned : Turned) (w' : Whole) : Type 0 where
  pub place : ℕ
  pub list : ActorList
  pub actor_state : ActorProgress
  pub order : Order
  pub at : IsActorAt w a place list actor_state
  pub next : slice_get list.orders actor_state.number ≡ Some order
  pub row : AtNode w.partition_state order.broker.0
      (λ x. Row w.partition_state order.broker.0 x actor_state.snapshot order.command turned w'.partition_state)
  pub desk : w'.desk ≡ slice_set w.desk place (actor_state_after actor_state turned)
  pub entered : w'.journal.items
      ≡ w.journal.items ++ record {
        actor = list.actor;
        number = actor_state.number;
        event = event_of turned
            order.command;
      } ∷ []
  pub partition : w'.partition ≡ w.partition
  pub config : w'.config ≡ w.config
  pub lists : w'.lists ≡ w.lists

-- the actor has no list, or has come to the end of it
abbrev pub IsAtEnd : Whole → ℕ → Type 0
IsAtEnd w a =
    (place : ℕ) (l : ActorList) (actor_state : ActorProgress) → IsActorAt w a place l actor_state
    → length l.orders ≤ actor_state.number

-- what a step of the actor comes to, by what it answers
abbrev pub Steps : Whole → ℕ → Stepped → Whole → Type 0
Steps w a Ran w' = (g : StartSnapshot) × IsTurn w a (Begins g) w'
Steps w a Done w' = (answer : Answer) × IsTurn w a (Answers answer) w'
Steps w a Nothing w' = IsAtEnd w a × (w' ≡ w)
Steps w a NoMemory w' = w' ≡ w
