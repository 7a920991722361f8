-- A node with what its broker knows of the remote tier, as the broker's tier state of the tier's scene.
--
-- The nodes of a partition and the tier states of their brokers are in two lists, one of each for a broker.
use Rattle.std.specs.Prelude.{ℕ, ◌==◌, if◌then◌else◌, max, List, [], ◌∷◌, Option, Some, None}
use Rattle.tier_base.specs.declared.names.SegmentId.{SegmentId}
use Rattle.sparse_index.specs.Offsets.{OffsetTable}
use Rattle.remote_view.specs.Fold.{EntriesSeen, view_of}
use Rattle.laws_partition.specs.Seen.{Back, Node}
use Rattle.tier_safe.specs.Scene.{BrokerTierView}

-- what a broker knows of the remote tier: its view, the number of its next copy since its log was opened so often,
-- and its cache of remote indexes
pub record BrokerTierModel : Type 0 where
  pub view : EntriesSeen
  pub incarnation : ℕ
  pub attempt : ℕ
  pub cache : List (SegmentId × OffsetTable)

-- the number of the next copy since the log was opened so often
abbrev pub next_of : BrokerTierModel → ℕ → ℕ
next_of broker_tier incarnation = if broker_tier.incarnation == incarnation then broker_tier.attempt else 0

-- the greater of a local start and of what may come back instead
abbrev pub greatest : ℕ → Option Back → ℕ
greatest start None = start
greatest start (Some back) = max start back.2

-- where a node's local log starts, or the greatest such offset that may come back
abbrev pub start_of : Node → ℕ
start_of x = greatest x.local x.loose

-- a broker's tier state of the scene
abbrev pub tier_view_of : Node → BrokerTierModel → BrokerTierView
tier_view_of x broker_tier = record {
  up = x.up;
  start = start_of x;
  incarnation = x.incarnation;
  next = next_of broker_tier x.incarnation;
  view = broker_tier.view;
  cache = broker_tier.cache;
}

-- that of each broker
abbrev pub tier_views_of : List Node → List BrokerTierModel → List BrokerTierView
tier_views_of [] broker_tiers = []
tier_views_of (x ∷ nodes) [] = []
tier_views_of (x ∷ nodes) (broker_tier ∷ broker_tiers) = tier_view_of x broker_tier ∷ tier_views_of nodes broker_tiers

-- what a broker knows where nothing has happened
abbrev pub fresh_broker_tier : BrokerTierModel
fresh_broker_tier = record { view = view_of []; incarnation = 0; attempt = 0; cache = [] }
