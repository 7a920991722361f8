-- Which worlds a schedule reaches: chains of turns by its actors, in its order.
use Rattle.std.specs.Prelude.{◌≡◌, ℕ, zero, suc, ◌≤◌, ◌⊎◌, List, [], ◌∷◌, length}
use Rattle.disk_model.specs.declared.disk.Disk.{Ghosts as DiskGhosts}
use Rattle.object_store.specs.declared.store.Store.{Ghosts as StoreGhosts}
use Rattle.meta_log.specs.declared.log.MetaLog.{Ghosts as MetaGhosts}
use Rattle.plain_log.specs.declared.command.ActorList.{ActorList}
use Rattle.plain_log.specs.declared.command.Pace.{Pace}
use Rattle.plain_log.specs.declared.command.Pace.TheVariants.{Until, Times}
use Rattle.partition_world.specs.declared.actor_state.Outcome.{Outcome}
use Rattle.partition_world.specs.declared.actor_state.ActorState.{ActorState}
use Rattle.partition_world.specs.Turn.{IsActorAt, IsTurn, IsAtEnd}
use Rattle.partition_world.specs.Whole.{Whole}

module _ {D S M : Type 0} where
  -- the actor has answered so many of its commands, or all of them
  abbrev pub HasAnswered : Whole D S M → ℕ → ℕ → Type 0
  HasAnswered w a number = (place : ℕ) (l : ActorList) (actor_state : ActorState) → IsActorAt w a place l actor_state
      → (number ≤ actor_state.number) ⊎ (length l.orders ≤ actor_state.number)

module _ {D S M : Type 0} (disk : DiskGhosts D) (store : StoreGhosts S) (meta : MetaGhosts M) where
  -- a turn of the actor; where it is at the end of its list nothing changes
  abbrev pub TakesTurn : Whole D S M → ℕ → Whole D S M → Type 0
  TakesTurn w a w' = ((outcome : Outcome) × IsTurn disk store meta w a outcome w') ⊎ (IsAtEnd w a × (w' ≡ w))

  -- so many turns of the actor
  abbrev pub GoesTimes : Whole D S M → ℕ → ℕ → Whole D S M → Type 0
  GoesTimes w a zero w' = w' ≡ w
  GoesTimes w a (suc turns) w' = (v : Whole D S M) × TakesTurn w a v × GoesTimes v a turns w'

  -- the actor takes so many turns, and no more than it must, to have answered so many of its commands
  abbrev pub GoesUntil : Whole D S M → ℕ → ℕ → ℕ → Whole D S M → Type 0
  GoesUntil w a number zero w' = HasAnswered w a number × (w' ≡ w)
  GoesUntil w a number (suc turns) w' =
      (HasAnswered w a number → ⊥) × ((v : Whole D S M) × TakesTurn w a v × GoesUntil v a number turns w')

  -- one item of a schedule
  abbrev pub Paces : Whole D S M → Pace → Whole D S M → Type 0
  Paces w (Until actor number) w' = (turns : ℕ) × GoesUntil w actor.0 number turns w'
  Paces w (Times actor turns) w' = GoesTimes w actor.0 turns w'

  -- the schedule leads from the one world to the other
  abbrev pub Reaches : Whole D S M → List Pace → Whole D S M → Type 0
  Reaches w [] w' = w' ≡ w
  Reaches w (pace ∷ schedule) w' = (v : Whole D S M) × Paces w pace v × Reaches v schedule w'
