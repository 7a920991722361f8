-- What a power cut of everything leaves of a partition and its tier, beside the plain state that cold_state says.
use Rattle.std.specs.Prelude.{ℤ, false, List, [], length, map, replicate}
use Rattle.tier_base.specs.Reserved.{ReservedItems}
use Rattle.plain_log.specs.declared.command.ActorList.{ActorList}
use Rattle.plain_log.specs.declared.journal.JournalEntry.{JournalEntry}
use Rattle.laws_partition.specs.Seen.{Node, SeenPartition}
use Rattle.laws_partition.specs.Fresh.{fresh_actor_state}
use Rattle.laws_partition.specs.Whole.{Whole}
use Rattle.laws_tier_turns.specs.BrokerTiers.{BrokerTierModel, fresh_broker_tier}
use Rattle.plain_log.specs.declared.state.Role.TheVariants.{Idle}
use Rattle.remote_view.specs.Fold.{view_of}
use Rattle.tier_safe.specs.Scene.{BrokerTierView, TierTask, Scene}

-- a broker's tier state that is down and knows nothing of the tier
abbrev pub cold_tier_view : BrokerTierView → BrokerTierView
cold_tier_view tier_view = record tier_view { up = false; next = 0; view = view_of []; cache = [] }

-- all tier states are, and the desk is free
abbrev pub cold_scene : Scene → List TierTask → Scene
cold_scene c desk = record c { tier_views = map cold_tier_view c.tier_views; desk = desk }

-- a node that is down and has never stopped: what comes back of its log is as it was
abbrev pub cold_node : Node → Node
cold_node x = record x { up = false; stops = 0; role = Idle; known_high_watermark = 0 }

-- all are, and the clock is set again
abbrev pub cold_partition_state : SeenPartition → ℤ → SeenPartition
cold_partition_state h clock = record h { nodes = map cold_node h.nodes; clock = clock }

-- a world that begins there with these lists and this journal
abbrev pub cold_whole : Whole → ℤ → List ActorList → ReservedItems JournalEntry → Whole
cold_whole w clock lists journal = record w {
  lists = lists;
  partition_state = cold_partition_state w.partition_state clock;
  desk = replicate (length lists) fresh_actor_state;
  journal = journal;
}

-- no broker knows of a remote segment
abbrev pub cold_broker_tiers : List BrokerTierModel → List BrokerTierModel
cold_broker_tiers broker_tiers = map (λ broker_tier. fresh_broker_tier) broker_tiers
