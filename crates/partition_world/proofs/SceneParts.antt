-- How the tier's scene changes with a world's tier states and actors' states.
use Rattle.std.proofs.Common.{◌≡◌, ap, refl, ℕ, zero, suc, List, [], ◌∷◌, length, slice_get, slice_set, Some, None, Option}
use Rattle.plain_log.specs.declared.command.ActorList.{ActorList}
use Rattle.plain_log.specs.declared.command.Command.{Command}
use Rattle.plain_log.specs.declared.command.Command.TheVariants.{Join}
use Rattle.plain_log.specs.declared.command.Order.{Order}
use Rattle.laws_partition.specs.declared.start_snapshot.StartSnapshot.{StartSnapshot}
use Rattle.laws_partition.specs.Seen as seen
use Rattle.laws_tier_turns.specs.BrokerTiers.{tier_view_of, tier_views_of}
use Rattle.laws_tier_turns.specs.TierTasks.{KeepsTask, tier_task_of as tier_task_seen}
use Rattle.tier_safe.specs.Scene.{BrokerTierView, TierTask, Free}
use Rattle.partition_world.specs.declared.actor_state.ActorState.{ActorState}
use Rattle.partition_world.specs.declared.actor_state.InProgress.TheVariants.{Idle}
use Rattle.partition_world.specs.declared.tier.BrokerTierState.{BrokerTierState}
use Rattle.partition_world.specs.Central.{broker_tier_seen, broker_tiers_seen, tier_task_of, desk_of}

-- as many tier states are seen as there are
pub broker_tiers_count : (broker_tiers : List BrokerTierState) → length (broker_tiers_seen broker_tiers) ≡ length broker_tiers
broker_tiers_count [] = refl
broker_tiers_count (broker_tier ∷ broker_tiers) = ap suc (broker_tiers_count broker_tiers)

-- a broker's tier state of the scene
pub tier_view_at : (nodes : List seen.Node) (broker_tiers : List BrokerTierState) (b : ℕ) (y : seen.Node) (broker_tier : BrokerTierState) → slice_get nodes b ≡ Some y → slice_get broker_tiers b ≡ Some broker_tier
    → slice_get (tier_views_of nodes (broker_tiers_seen broker_tiers)) b ≡ Some (tier_view_of y (broker_tier_seen broker_tier))
tier_view_at [] broker_tiers b y broker_tier at to = absurd cc
tier_view_at (x ∷ nodes) [] b y broker_tier at to = absurd cc
tier_view_at (x ∷ nodes) (z ∷ broker_tiers) zero y broker_tier at to =
    let one : x ≡ y = cc in
    let two : z ≡ broker_tier = cc in
    rw (one, two) refl
tier_view_at (x ∷ nodes) (z ∷ broker_tiers) (suc b) y broker_tier at to = tier_view_at nodes broker_tiers b y broker_tier at to

-- with another tier state in its place
pub tier_view_set : (nodes : List seen.Node) (broker_tiers : List BrokerTierState) (b : ℕ) (y : seen.Node) (broker_tier : BrokerTierState) → slice_get nodes b ≡ Some y
    → tier_views_of nodes (broker_tiers_seen (slice_set broker_tiers b broker_tier)) ≡ slice_set (tier_views_of nodes (broker_tiers_seen broker_tiers)) b (tier_view_of y (broker_tier_seen broker_tier))
tier_view_set [] broker_tiers b y broker_tier at = absurd cc
tier_view_set (x ∷ nodes) [] b y broker_tier at = refl
tier_view_set (x ∷ nodes) (z ∷ broker_tiers) zero y broker_tier at = let one : x ≡ y = cc in rw one refl
tier_view_set (x ∷ nodes) (z ∷ broker_tiers) (suc b) y broker_tier at = ap (λ (k : List BrokerTierView). tier_view_of x (broker_tier_seen z) ∷ k) (tier_view_set nodes broker_tiers b y broker_tier at)

-- what the tier sees of an actor's state
pub actor_state_at : (lists : List ActorList) (desk : List ActorState) (place : ℕ) (l : ActorList) (actor_state : ActorState) → slice_get lists place ≡ Some l → slice_get desk place ≡ Some actor_state
    → slice_get (desk_of lists desk) place ≡ Some (tier_task_of (slice_get l.orders actor_state.number) actor_state.in_progress)
actor_state_at [] desk place l actor_state at to = absurd cc
actor_state_at (k ∷ lists) [] place l actor_state at to = absurd cc
actor_state_at (k ∷ lists) (s ∷ desk) zero l actor_state at to =
    let one : k ≡ l = cc in
    let two : s ≡ actor_state = cc in
    rw (one, two) refl
actor_state_at (k ∷ lists) (s ∷ desk) (suc place) l actor_state at to = actor_state_at lists desk place l actor_state at to

-- with another actor's state in its place
pub actor_state_set : (lists : List ActorList) (desk : List ActorState) (place : ℕ) (l : ActorList) (actor_state : ActorState) → slice_get lists place ≡ Some l
    → desk_of lists (slice_set desk place actor_state) ≡ slice_set (desk_of lists desk) place (tier_task_of (slice_get l.orders actor_state.number) actor_state.in_progress)
actor_state_set [] desk place l actor_state at = absurd cc
actor_state_set (k ∷ lists) [] place l actor_state at = refl
actor_state_set (k ∷ lists) (s ∷ desk) zero l actor_state at = let one : k ≡ l = cc in rw one refl
actor_state_set (k ∷ lists) (s ∷ desk) (suc place) l actor_state at =
    ap (λ (ws : List TierTask). tier_task_of (slice_get k.orders s.number) s.in_progress ∷ ws) (actor_state_set lists desk place l actor_state at)

-- an idle actor's state is free
pub idle_free : (order : Option Order) → tier_task_of order Idle ≡ Free
idle_free None = refl
idle_free (Some order) = refl

-- what was recorded is kept
pub keeps_recorded : (b : ℕ) (command : Command) (g : StartSnapshot) → KeepsTask b command (Some g) (tier_task_seen b command (Some g))
keeps_recorded b Join g = (_, _, refl)
keeps_recorded b command g = refl
