-- A partition that starts again over disks that were used before: all its brokers are down, and no disk was asked
-- anything.
--
--   form                          says
--   cold_partition_state settings r disks    the partition with this registry over these disks
--   IsColdPartition settings r disks h the same, once the disks' plans are in force
--   ShowDisks disks ss            the logs on these disks are seen so
--   partition_back r ss                the partition as it is seen then
use Rattle.std.specs.Prelude.{◌≡◌, ◌⊎◌, ℕ, List, [], ◌∷◌, Some, true, false, pos, map, slice_get, IsTrue}
use Rattle.tier_base.specs.declared.plain.Settings.{Settings}
use Rattle.tier_base.specs.Device.{Control, Arms}
use Rattle.disk_model.specs.Call.{call_code}
use Rattle.disk_model.specs.Content.{Content}
use Rattle.log_steps.specs.Reopens.{Reopens}
use Rattle.registry.specs.declared.registry.Registry.{Registry}
use Rattle.plain_log.specs.declared.state.Role.TheVariants.{Idle}
use Rattle.broker_log.specs.Seen.{LogSeen, Down, ShowsSeen, ShowsClosed, is_up}
use Rattle.laws_partition.specs.Seen as seen
use Rattle.partition_commands.specs.declared.partition_state.Node.{Node}
use Rattle.partition_commands.specs.declared.partition_state.PartitionState.{PartitionState}

module _ {D : Type 0} where
  -- a broker that is down and has never stopped, over a disk
  abbrev pub cold_node : Settings → D → Node D
  cold_node settings disk = record { stops = 0; role = Idle; log = Down settings disk; known_high_watermark = 0 }

  -- all are
  abbrev pub cold_partition_state : Settings → Registry → List D → PartitionState D
  cold_partition_state settings registry disks = record {
    registry = registry;
    nodes = map (cold_node settings) disks;
    clock = pos 0;
    copying = true;
    packed = false;
  }

-- a log as it is seen, of a broker that is down and has never stopped
abbrev pub node_back : LogSeen → seen.Node
node_back s = record {
  up = false;
  stops = 0;
  role = Idle;
  log = record { batches = s.batches; line = s.line };
  flushed_end = s.flushed_end;
  known_high_watermark = 0;
  saved = s.saved;
  local = s.local;
  loose = s.loose;
  incarnation = s.incarnation;
}

-- a partition of such brokers
abbrev pub partition_back : Registry → List LogSeen → seen.SeenPartition
partition_back registry ss = record { registry = registry; nodes = map node_back ss; clock = pos 0 }

module _ {D : Type 0} (content : D → Content) where
  -- the logs on these disks, which are closed, are seen so
  abbrev pub ShowDisks : List D → List LogSeen → Type 0
  ShowDisks [] [] = Unit {0}
  ShowDisks (disk ∷ disks) (s ∷ ss) = ShowsClosed content disk s × ShowDisks disks ss
  ShowDisks [] (s ∷ ss) = ⊥
  ShowDisks (disk ∷ disks) [] = ⊥

  -- from the disks of brokers that are up, or whose logs are seen, a log can be opened again, also after a power cut
  abbrev pub DisksReopen : List (Node D) → List D → Type 0
  DisksReopen nodes disks = (b : ℕ) (x : Node D) (disk : D) → slice_get nodes b ≡ Some x → slice_get disks b ≡ Some disk
      → IsTrue (is_up x.log) ⊎ ((s : LogSeen) × ShowsSeen content x.log s) → Reopens (content disk)

module _ {D : Type 0} (content : D → Content) (control : D → Control call_code) where
  -- a broker that is down and has never stopped, over a disk whose plan is in force, and whose log is seen as it was
  pub record IsColdOver (settings : Settings) (disk : D) (x : Node D) : Type 0 where
    pub now : D
    pub node : x ≡ cold_node settings now
    pub arms : Arms (control disk) (control now)
    pub seen : (s : LogSeen) → ShowsClosed content disk s → ShowsClosed content now s

  abbrev pub AreColdOver : Settings → List D → List (Node D) → Type 0
  AreColdOver settings [] [] = Unit {0}
  AreColdOver settings (disk ∷ disks) (x ∷ xs) = IsColdOver settings disk x × AreColdOver settings disks xs
  AreColdOver settings [] (x ∷ xs) = ⊥
  AreColdOver settings (disk ∷ disks) [] = ⊥

  -- all brokers are down, and the disks' plans are in force; segments are copied, none packed
  pub record IsColdPartition (settings : Settings) (registry : Registry) (disks : List D)
      (h : PartitionState D) : Type 0 where
    pub registry_is : h.registry ≡ registry
    pub nodes : AreColdOver settings disks h.nodes
    pub clock : h.clock ≡ pos 0
    pub copying : h.copying ≡ true
    pub packed : h.packed ≡ false
