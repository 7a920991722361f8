-- What a world keeps over any devices: what its turns need to be carried out.
use Rattle.std.specs.Prelude.{◌≡◌, ◌≤◌, ◌+◌, ℕ, true, List, [], ◌∷◌, Some, length, slice_get}
use Rattle.plain_log.specs.declared.command.ActorList.{ActorList}
use Rattle.plain_log.specs.declared.command.Command.{Command}
use Rattle.plain_log.specs.declared.command.Command.TheVariants.{Join, Follow, Copy, Trim, Expire, Fetch, Offset}
use Rattle.plain_log.specs.declared.command.Which.TheVariants.{LatestTiered, At}
use Rattle.plain_log.specs.declared.command.Config.{Config}
use Rattle.plain_log.specs.declared.command.Order.{Order}
use Rattle.plain_log.specs.Orders.{AreListsFor, IsConfig}
use Rattle.plain_log.specs.State.{leads}
use Rattle.laws_partition.specs.declared.start_snapshot.StartSnapshot.{StartSnapshot}
use Rattle.laws_partition.specs.Sound.{turns_left as entries_left}
use Rattle.partition_commands.specs.declared.partition_state.PartitionState.{PartitionState}
use Rattle.partition_commands.specs.Sound.{SoundPartition}
use Rattle.partition_commands.specs.Stopping.{HaveStopped}
use Rattle.tier_fetch.specs.Turns.{IsPieceFor}
use Rattle.tier_fetch.specs.declared.turn.FetchStep.{FetchStep}
use Rattle.time_find.specs.declared.turn.SearchStep.{SearchStep as Dating}
use Rattle.time_find.specs.Turns.{IsSet}
use Rattle.partition_world.specs.declared.actor_state.ActorState.{ActorState}
use Rattle.partition_world.specs.declared.actor_state.InProgress.{InProgress}
use Rattle.partition_world.specs.declared.actor_state.InProgress.TheVariants.{Idle, Noted, Copies, Seeks}
use Rattle.partition_world.specs.declared.actor_state.InProgress.TheVariants.{Dates, Expires, Rebuilds}
use Rattle.partition_world.specs.declared.tier.BrokerTierState.{BrokerTierState}
use Rattle.partition_world.specs.ActorStates.{desk_seen}

-- a command has a second turn, with what was recorded at its first; that of an expiry was a leader's
abbrev pub HasSecondTurn : Command → StartSnapshot → Type 0
HasSecondTurn Join g = Unit {0}
HasSecondTurn (Follow limit) g = Unit {0}
HasSecondTurn Copy g = Unit {0}
HasSecondTurn Trim g = Unit {0}
HasSecondTurn Expire g = leads g.role ≡ true
HasSecondTurn (Fetch offset limit) g = Unit {0}
HasSecondTurn (Offset LatestTiered) g = Unit {0}
HasSecondTurn (Offset (At ts)) g = Unit {0}
HasSecondTurn command g = ⊥

-- a fetch does this next, for its offset
abbrev pub SeeksBy : Command → FetchStep → Type 0
SeeksBy (Fetch offset limit) next = IsPieceFor offset next
SeeksBy command next = ⊥

-- a timestamp lookup does this next, at a cursor
abbrev pub DatesBy : Command → ℕ → Dating → Type 0
DatesBy (Offset (At ts)) cursor next = IsSet cursor next
DatesBy command cursor next = ⊥

-- what an actor's state has is of a turn that its command has
abbrev pub IsProgressOf : Command → InProgress → Type 0
IsProgressOf command Idle = Unit {0}
IsProgressOf command (Noted g) = HasSecondTurn command g
IsProgressOf command (Copies g copy next) = command ≡ Copy
IsProgressOf command (Seeks g next) = SeeksBy command next
IsProgressOf command (Dates g cursor next) = DatesBy command cursor next
IsProgressOf command (Expires g segment next) = command ≡ Expire
IsProgressOf command (Rebuilds g next) = command ≡ Join

-- each actor's state has what its order's next turn needs
abbrev pub AreInProgress : List ActorList → List ActorState → Type 0
AreInProgress lists desk =
    (place : ℕ) (l : ActorList) (actor_state : ActorState) (order : Order) → slice_get lists place ≡ Some l
    → slice_get desk place ≡ Some actor_state → slice_get l.orders actor_state.number ≡ Some order
    → IsProgressOf order.command actor_state.in_progress

-- its lists can be run, each broker has a tier state of the tier, and the journal has room for each entry that is left:
-- a beginning and an answer of each order
pub record CanBeRun {D : Type 0} (config : Config) (lists : List ActorList) (h : PartitionState D)
    (broker_tiers : List BrokerTierState) (desk : List ActorState)
    (free : ℕ) : Type 0 where
  pub config_fits : IsConfig config
  pub fit : AreListsFor config lists
  pub partition_state : SoundPartition config.brokers h
  pub sided : length broker_tiers ≡ config.brokers
  pub actor_states : length desk ≡ length lists
  pub works : AreInProgress lists desk
  pub room : entries_left lists (desk_seen desk) ≤ free

-- one for a command that has begun and chosen nothing yet
abbrev pub waits : InProgress → ℕ
waits (Noted g) = 1
waits other = 0

-- how many actors' states have such a command in progress
abbrev pub waiting : List ActorState → ℕ
waiting [] = 0
waiting (actor_state ∷ desk) = waits actor_state.in_progress + waiting desk

-- no broker has tried more copies than so many
abbrev pub HaveTried : ℕ → List BrokerTierState → Type 0
HaveTried m broker_tiers =
    (b : ℕ) (broker_tier : BrokerTierState) → slice_get broker_tiers b ≡ Some broker_tier → broker_tier.attempt ≤ m

-- the journal has so many entries, and with those that are left never more than 64 actors with 2^32 orders of two
-- entries each. It bounds how often a broker has stopped, since a command that stops one is answered, and how many
-- copies one has tried, since each has begun
pub record AreCounted {D : Type 0} (lists : List ActorList) (h : PartitionState D) (broker_tiers : List BrokerTierState)
    (desk : List ActorState) (entered : ℕ)
    : Type 0 where
  pub few : entered + entries_left lists (desk_seen desk) ≤ 549755813888
  pub stopped : HaveStopped entered h.nodes
  pub tried : (m : ℕ) × HaveTried m broker_tiers × (m + waiting desk ≤ entered)
