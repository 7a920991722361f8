-- A turn of a command, beside the tier's scene.
use Rattle.std.specs.Prelude.{◌≡◌, ℕ, ◌<◌, ◌≤◌, Bool, true, false, List, Option, Some, length, option_map, slice_get}
use Rattle.plain_log.specs.declared.answer.Answer.TheVariants.{DiskFault, DiskFaultAt, Dropped, Rebuilt}
use Rattle.plain_log.specs.declared.command.Command.{Command}
use Rattle.plain_log.specs.declared.command.Command.TheVariants.{Join, Trim}
use Rattle.plain_log.specs.declared.command.Order.{Order}
use Rattle.plain_log.specs.declared.journal.JournalEntry.{JournalEntry}
use Rattle.plain_log.specs.declared.state.State.{State as Plain}
use Rattle.plain_log.specs.State.{actor_at}
use Rattle.plain_log.specs.Step.{step}
use Rattle.laws_partition.specs.declared.start_snapshot.StartSnapshot.{StartSnapshot}
use Rattle.laws_partition.specs.declared.start_snapshot.Turned.{Turned}
use Rattle.laws_partition.specs.declared.start_snapshot.Turned.TheVariants.{Answers}
use Rattle.laws_partition.specs.Seen.{Node, SeenPartition}
use Rattle.laws_partition.specs.Partition.{recorded_of}
use Rattle.laws_partition.specs.Rows.{Row}
use Rattle.laws_partition.specs.Turn.{event_of}
use Rattle.laws_partition.specs.Central.{PartitionMatches}
use Rattle.laws_partition.specs.Sound.{SoundPartition}
use Rattle.tier_safe.specs.Scene.{TierTask, Scene}
use Rattle.tier_safe.specs.Changes.{Change, effects}
use Rattle.tier_safe.specs.May.{Mays}
use Rattle.tier_safe.specs.Lineage.{CoversLog}
use Rattle.laws_tier_turns.specs.BrokerTiers.{BrokerTierModel, start_of, tier_views_of}
use Rattle.laws_tier_turns.specs.TierTasks.{KeepsTask}

-- a turn of an order, which has begun or not, at its broker's node: as it is seen, and as the plain log's step
pub record TurnStands (brokers : ℕ) (h h' : SeenPartition) (p q : Plain) (x : Node) (snapshot : Option StartSnapshot)
    (turned : Turned)
    (order : Order) (entry : JournalEntry) : Type 0 where
  pub before : PartitionMatches h p
  pub after : PartitionMatches h' q
  pub sound : SoundPartition brokers h
  pub node : slice_get h.nodes order.broker.0 ≡ Some x
  pub row : Row h order.broker.0 x snapshot order.command turned h'
  pub recorded : (actor_at p.actors entry.actor.0).snapshot ≡ option_map (recorded_of order) snapshot
  pub event : entry.event ≡ event_of turned order.command
  pub is : step p order entry ≡ Some q

-- the scene shows these nodes and tier states
pub record ShowsBrokerTiers (h : SeenPartition) (broker_tiers : List BrokerTierModel) (c : Scene) : Type 0 where
  pub count : length h.nodes ≤ length broker_tiers
  pub are : c.tier_views ≡ tier_views_of h.nodes broker_tiers

-- actor a's state shows a command of broker b that has begun with this, or not
pub record ShowsTask (a b : ℕ) (command : Command) (snapshot : Option StartSnapshot) (c : Scene) : Type 0 where
  pub tier_task : TierTask
  pub actor_state : slice_get c.desk a ≡ Some tier_task
  pub is : KeepsTask b command snapshot tier_task

-- a local start may rise: a trim drops a segment, a rebuild restarts a log, or either fails on the disk
abbrev pub may_raise : Option StartSnapshot → Command → Turned → Bool
may_raise (Some g) Trim (Answers (Dropped base last)) = true
may_raise (Some g) Trim (Answers DiskFault) = true
may_raise (Some g) Join (Answers (Rebuilt n)) = true
may_raise (Some g) Join (Answers (DiskFaultAt n)) = true
may_raise snapshot command turned = false

-- a node's local start has not fallen, and what it has passed, from the log start offset on, is covered in the broker's
-- view
pub record IsTrimmed (start : ℕ) (x y : Node) (broker_tier : BrokerTierModel) : Type 0 where
  pub rises : start_of x ≤ start_of y
  pub covered : (o : ℕ) → start ≤ o → start_of x ≤ o → o < start_of y
      → CoversLog broker_tier.view.entries x.log.batches o

-- what a trim owes; other commands owe nothing
abbrev pub OwesTier : SeenPartition → ℕ → Node → Command → List BrokerTierModel → SeenPartition → Type 0
OwesTier h b x Trim broker_tiers h' =
    (y : Node) (broker_tier : BrokerTierModel) → slice_get h'.nodes b ≡ Some y
    → slice_get broker_tiers b ≡ Some broker_tier
    → IsTrimmed h.registry.start x y broker_tier
OwesTier h b x command broker_tiers h' = Unit {0}

-- changes, among them the plain log's step, lead from one tier to another
pub record IsTurned (c : Scene) (p q : Plain) (new : Scene) : Type 0 where
  pub changes : List Change
  pub may : Mays changes c p q
  pub is : effects changes c ≡ new
