-- The laws of a partition beside its remote tier.
use Rattle.std.specs.Prelude.{◌≡◌, ℕ, false, List, Option, replicate, slice_set}
use Rattle.plain_log.specs.declared.command.Order.{Order}
use Rattle.plain_log.specs.declared.journal.JournalEntry.{JournalEntry}
use Rattle.plain_log.specs.declared.state.State.{State as Plain}
use Rattle.plain_log.specs.Safe.{PlainSafe}
use Rattle.laws_partition.specs.declared.start_snapshot.StartSnapshot.{StartSnapshot}
use Rattle.laws_partition.specs.declared.start_snapshot.Turned.{Turned}
use Rattle.laws_partition.specs.Seen.{Node, SeenPartition}
use Rattle.laws_partition.specs.Fresh.{fresh_partition_state}
use Rattle.tier_safe.specs.Scene.{Scene}
use Rattle.tier_safe.specs.Follow.{BrokerTiersFollow}
use Rattle.tier_safe.specs.Fresh.{fresh_tier_view}
use Rattle.tier_safe.specs.Safe.{BothSafe}
use Rattle.laws_tier_turns.specs.BrokerTiers.{BrokerTierModel, tier_views_of, fresh_broker_tier}
use Rattle.laws_tier_turns.specs.TierTasks.{tier_task_of, snapshot_after}
use Rattle.laws_tier_turns.specs.Turns.{TurnStands, ShowsBrokerTiers, ShowsTask, may_raise, OwesTier, IsTurned}

-- where no local start may rise, the tier states follow the turn, of whatever command
abbrev pub BrokerTiersFollowTurns : Type 0
BrokerTiersFollowTurns = (brokers : ℕ) (h h' : SeenPartition) (p q : Plain) (x : Node)
    (snapshot : Option StartSnapshot) (turned : Turned) (order : Order)
    (entry : JournalEntry) (broker_tiers : List BrokerTierModel) (c : Scene)
    → TurnStands brokers h h' p q x snapshot turned order entry
    → PlainSafe p → ShowsBrokerTiers h broker_tiers c → may_raise snapshot order.command turned ≡ false
    → BrokerTiersFollow (tier_views_of h'.nodes broker_tiers) c p q

-- the tier after a turn in actor a's state
abbrev pub after_turn : Scene → ℕ → Order → Turned → List BrokerTierModel → SeenPartition → Scene
after_turn c a order turned broker_tiers h = record c {
  tier_views = tier_views_of h.nodes broker_tiers;
  desk = slice_set c.desk a (tier_task_of order.broker.0 order.command (snapshot_after turned));
}

-- each turn of a command that works on no remote device is changes
abbrev pub OwnTurnsChange : Type 0
OwnTurnsChange = (brokers : ℕ) (h h' : SeenPartition) (p q : Plain) (x : Node) (snapshot : Option StartSnapshot)
    (turned : Turned) (order : Order)
    (entry : JournalEntry) (broker_tiers : List BrokerTierModel) (c : Scene) (a : ℕ)
    → TurnStands brokers h h' p q x snapshot turned order entry
    → BothSafe c p → ShowsBrokerTiers h broker_tiers c → ShowsTask a order.broker.0 order.command snapshot c
    → OwesTier h order.broker.0 x order.command broker_tiers h'
    → IsTurned c p q (after_turn c a order turned broker_tiers h')

-- such changes keep the rules of the plain log and of the tier
abbrev pub TurnsKeepSafe : Type 0
TurnsKeepSafe = (c new : Scene) (p q : Plain) → IsTurned c p q new → BothSafe c p → BothSafe new q

-- the tier states of a fresh partition are those of a fresh tier
abbrev pub FreshTier : Type 0
FreshTier = (brokers : ℕ)
    → tier_views_of (fresh_partition_state brokers).nodes (replicate brokers fresh_broker_tier)
    ≡ replicate brokers fresh_tier_view
