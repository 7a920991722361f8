-- What an actor's next turn would have made ready, and what is made of that. A turn comes to the same whatever is
-- ready.
use Rattle.std.specs.Prelude.{◌≡◌, ℕ, List}
use Rattle.plain_log.specs.declared.command.ActorList.{ActorList}
use Rattle.plain_log.specs.declared.command.Command.{Command}
use Rattle.plain_log.specs.declared.command.Command.TheVariants.{Raw}
use Rattle.plain_log.specs.declared.command.Order.{Order}
use Rattle.copy_task.specs.Copying.{Copied}
use Rattle.partition_world.specs.declared.ready.Want.{Want}
use Rattle.partition_world.specs.declared.ready.Want.TheVariants as want
use Rattle.partition_world.specs.declared.ready.Ready.{Ready}
use Rattle.partition_world.specs.declared.ready.Ready.TheVariants as ready
use Rattle.partition_world.specs.declared.actor_state.ActorState.{ActorState}
use Rattle.partition_world.specs.declared.actor_state.InProgress.{InProgress}
use Rattle.partition_world.specs.declared.actor_state.InProgress.TheVariants.{Idle, Copies}
use Rattle.partition_world.specs.Turn.{IsAtEnd, IsNextOrder}
use Rattle.partition_world.specs.Whole.{Whole}

-- a copy that has chosen its segment wants the bundle of that, or has it
abbrev pub IsWantOfCopy : Copied → Want → Type 0
IsWantOfCopy copy want.Nothing = Unit {0}
IsWantOfCopy copy (want.Check bytes) = ⊥
IsWantOfCopy copy (want.Bundle closed line interval) =
    (closed ≡ copy.segment) × (line ≡ copy.line) × (interval ≡ copy.interval)

-- what the next turn of a command wants, of which so much is kept: the first of a raw wants the check of its bytes
abbrev pub IsWantOf : Command → InProgress → Want → Type 0
IsWantOf command (Copies g copy next) wanted = IsWantOfCopy copy wanted
IsWantOf (Raw bytes) Idle wanted = wanted ≡ want.Check bytes
IsWantOf command in_progress wanted = wanted ≡ want.Nothing

-- what an actor's next turn wants
pub record IsWanted {D S M : Type 0} (w : Whole D S M) (a : ℕ) (wanted : Want) : Type 0 where
  pub next : (place : ℕ) (l : ActorList) (actor_state : ActorState) (order : Order)
      → IsNextOrder w a place l actor_state order
      → IsWantOf order.command actor_state.in_progress wanted
  pub none : IsAtEnd w a → wanted ≡ want.Nothing

-- what is made of what is wanted
abbrev pub Prepares : Want → Ready → Type 0
Prepares want.Nothing made = made ≡ ready.Nothing
Prepares (want.Check bytes) (ready.Checked checked) = checked.bytes ≡ bytes
Prepares (want.Bundle closed line interval) (ready.Bundle bundle) =
    (bundle.source ≡ closed.bytes) × (bundle.line ≡ line) × (bundle.interval ≡ interval)
Prepares wanted made = ⊥
