-- The turns of a world.
use Rattle.std.specs.Prelude.{◌≡◌, ℕ, ◌<◌, ◌≤◌, Some, ◌++◌, IsTrue, length, slice_get, slice_set}
use Rattle.disk_model.specs.declared.disk.Disk.{Ghosts as DiskGhosts}
use Rattle.object_store.specs.declared.store.Store.{Ghosts as StoreGhosts}
use Rattle.meta_log.specs.declared.log.MetaLog.{Ghosts as MetaGhosts}
use Rattle.plain_log.specs.declared.answer.Answer.{Answer}
use Rattle.plain_log.specs.declared.command.ActorList.{ActorList}
use Rattle.plain_log.specs.declared.command.Order.{Order}
use Rattle.laws_partition.specs.declared.actor_progress.Stepped.{Stepped}
use Rattle.laws_partition.specs.declared.actor_progress.Stepped.TheVariants.{Ran, Done, Nothing, NoMemory}
use Rattle.partition_commands.specs.Turns.{takes_memory}
use Rattle.partition_world.specs.declared.actor_state.Outcome.{Outcome}
use Rattle.partition_world.specs.declared.actor_state.Outcome.TheVariants.{Answers}
use Rattle.partition_world.specs.declared.actor_state.ActorState.{ActorState}
use Rattle.partition_world.specs.ActorStates.{actor_state_after, told_of, IsUnanswered}
use Rattle.partition_world.specs.Turns.{TurnRow, StaysTier}
use Rattle.partition_world.specs.Whole.{Whole}

module _ {D S M : Type 0} where
  -- the actor's list and its place at the desk
  pub record IsActorAt (w : Whole D S M) (a place : ℕ) (l : ActorList) (actor_state : ActorState) : Type 0 where
    pub list : slice_get w.lists place ≡ Some l
    pub actor : l.actor.0 ≡ a
    pub actor_state_is : slice_get w.desk place ≡ Some actor_state

  -- the actor has no list, or has come to the end of it
  abbrev pub IsAtEnd : Whole D S M → ℕ → Type 0
  IsAtEnd w a =
      (place : ℕ) (l : ActorList) (actor_state : ActorState) → IsActorAt w a place l actor_state
      → length l.orders ≤ actor_state.number

  -- the actor's next order
  pub record IsNextOrder (w : Whole D S M) (a place : ℕ) (l : ActorList) (actor_state : ActorState)
      (order : Order) : Type 0 where
    pub at : IsActorAt w a place l actor_state
    pub next : slice_get l.orders actor_state.number ≡ Some order

module _ {D S M : Type 0} (disk : DiskGhosts D) (store : StoreGhosts S) (meta : MetaGhosts M) where
  -- a turn of the actor's next order, which begins, continues or is answered; what began or was answered is entered
  -- into the journal
  pub record IsTurn (w : Whole D S M) (a : ℕ) (outcome : Outcome) (w' : Whole D S M) : Type 0 where
    pub place : ℕ
    pub list : ActorList
    pub actor_state : ActorState
    pub order : Order
    pub at : IsActorAt w a place list actor_state
    pub next : slice_get list.orders actor_state.number ≡ Some order
    pub row : TurnRow disk store meta w.partition w.config w.partition_state w.tier order.broker.0
        actor_state.in_progress order.command outcome w'.partition_state w'.tier
    pub desk : w'.desk ≡ slice_set w.desk place (actor_state_after actor_state outcome)
    pub entered : w'.journal.items ≡ w.journal.items ++ told_of list.actor actor_state.number order.command outcome
    pub partition : w'.partition ≡ w.partition
    pub config : w'.config ≡ w.config
    pub lists : w'.lists ≡ w.lists

  -- there was no memory for the actor's next order: nothing that is seen has changed, but for what the turn's own
  -- calls of the tier may leave. The command is one that takes memory
  pub record StaysWhole (w : Whole D S M) (a : ℕ) (w' : Whole D S M) : Type 0 where
    pub place : ℕ
    pub list : ActorList
    pub actor_state : ActorState
    pub order : Order
    pub next : IsNextOrder w a place list actor_state order
    pub node : order.broker.0 < length w.partition_state.nodes
    pub tier : StaysTier disk store meta w.partition w.partition_state w.tier order.broker.0 actor_state.in_progress
        order.command w'.partition_state w'.tier
    pub wants : IsTrue (takes_memory order.command)
    pub fields : w' ≡ record w { partition_state = w'.partition_state; tier = w'.tier }

  -- what a step of the actor comes to, by what it answers
  abbrev pub Steps : Whole D S M → ℕ → Stepped → Whole D S M → Type 0
  Steps w a Ran w' = (outcome : Outcome) × IsUnanswered outcome × IsTurn w a outcome w'
  Steps w a Done w' = (answer : Answer) × IsTurn w a (Answers answer) w'
  Steps w a Nothing w' = IsAtEnd w a × (w' ≡ w)
  Steps w a NoMemory w' = StaysWhole w a w'
