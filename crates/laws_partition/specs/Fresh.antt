-- A world where nothing has happened yet.
use Rattle.std.specs.Prelude.{◌≡◌, ℕ, ◌-◌, List, [], ◌∷◌, None, true, pos, replicate, length}
use Rattle.tier_base.specs.declared.names.PartitionId.{PartitionId}
use Rattle.registry.specs.Registry.{fresh_registry}
use Rattle.plain_log.specs.declared.command.ActorList.{ActorList}
use Rattle.plain_log.specs.declared.command.Config.{Config}
use Rattle.plain_log.specs.declared.state.Role.{Role}
use Rattle.plain_log.specs.declared.state.Role.TheVariants.{Leads, Joined}
use Rattle.laws_partition.specs.Seen.{Node, SeenPartition}
use Rattle.laws_partition.specs.declared.actor_progress.ActorProgress.{ActorProgress}
use Rattle.laws_partition.specs.Whole.{Whole}

-- a node that is up, with an empty log and these leader epochs
abbrev pub fresh_node : Role → List (ℕ × ℕ) → Node
fresh_node role line = record {
  up = true;
  stops = 0;
  role = role;
  log = record { batches = []; line = line };
  flushed_end = 0;
  known_high_watermark = 0;
  saved = line;
  local = 0;
  loose = None;
  incarnation = 1;
}

-- broker 0 leads epoch 0, the others have joined it, and all are in sync
abbrev pub fresh_partition_state : ℕ → SeenPartition
fresh_partition_state brokers = record {
  registry = fresh_registry brokers;
  nodes = fresh_node (Leads 0) ((0, 0) ∷ []) ∷ replicate (brokers - 1) (fresh_node (Joined 0) []);
  clock = pos 0;
}

-- an actor's state at the front of its list
abbrev pub fresh_actor_state : ActorProgress
fresh_actor_state = record { number = 0; snapshot = None }

-- nothing has happened
pub record IsFresh (partition : PartitionId) (config : Config) (lists : List ActorList) (w : Whole) : Type 0 where
  pub partition_is : w.partition ≡ partition
  pub config_is : w.config ≡ config
  pub lists_are : w.lists ≡ lists
  pub partition_state : w.partition_state ≡ fresh_partition_state config.brokers
  pub desk : w.desk ≡ replicate (length lists) fresh_actor_state
  pub journal : w.journal.items ≡ []
