-- Brokers that begin, or start again, have never stopped.
use Rattle.std.proofs.Common.{◌≡◌, ap, ℕ, zero, suc, ◌≤◌, List, [], ◌∷◌, slice_get, Some, Bool, true, false, arith}
use Rattle.tier_base.specs.declared.plain.Settings.{Settings}
use Rattle.tier_base.specs.Device.{Control}
use Rattle.disk_model.specs.Call.{call_code}
use Rattle.disk_model.specs.Content.{Content}
use Rattle.registry.specs.declared.registry.Registry.{Registry}
use Rattle.partition_commands.specs.declared.partition_state.Node.{Node}
use Rattle.partition_commands.specs.declared.partition_state.PartitionState.{PartitionState}
use Rattle.partition_commands.specs.Cold.{AreColdOver, IsColdPartition}
use Rattle.partition_commands.specs.Fresh.{AreFreshFrom, IsFreshPartition}
use Rattle.partition_commands.specs.Stopping.{HaveStopped}

module _ {D : Type 0} (control : D → Control call_code) where
  nodes_stop : (leads : Bool) (disks : List D) (xs : List (Node D)) (b : ℕ) (x : Node D) → AreFreshFrom control leads disks xs → slice_get xs b ≡ Some x → x.stops ≤ 0
  nodes_stop leads [] [] b x f at = absurd cc
  nodes_stop leads [] (y ∷ xs) b x f at = absurd f
  nodes_stop leads (d ∷ disks) [] b x f at = absurd f
  nodes_stop leads (d ∷ disks) (y ∷ xs) zero x f at =
      let same : y ≡ x = cc in
      let none = f.0.node.stops in
      omega (arith, none, ap (λ (k : Node D). k.stops) same)
  nodes_stop leads (d ∷ disks) (y ∷ xs) (suc b) x f at = nodes_stop false disks xs b x f.1 at

  pub fresh_stops : (disks : List D) (h : PartitionState D) → IsFreshPartition control disks h → HaveStopped 0 h.nodes
  fresh_stops disks h f b x at = nodes_stop true disks h.nodes b x f.nodes at

module _ {D : Type 0} (content : D → Content) (control : D → Control call_code) where
  cold_nodes_stop : (settings : Settings) (disks : List D) (xs : List (Node D)) (b : ℕ) (x : Node D) → AreColdOver content control settings disks xs → slice_get xs b ≡ Some x → x.stops ≤ 0
  cold_nodes_stop settings [] [] b x c at = absurd cc
  cold_nodes_stop settings [] (y ∷ xs) b x c at = absurd c
  cold_nodes_stop settings (d ∷ disks) [] b x c at = absurd c
  cold_nodes_stop settings (d ∷ disks) (y ∷ xs) zero x c at =
      let same : y ≡ x = cc (at) in
      let none = ap (λ (k : Node D). k.stops) c.0.node in
      omega (arith, none, ap (λ (k : Node D). k.stops) same)
  cold_nodes_stop settings (d ∷ disks) (y ∷ xs) (suc b) x c at = cold_nodes_stop settings disks xs b x c.1 at

  pub cold_stops : (settings : Settings) (registry : Registry) (disks : List D) (h : PartitionState D) → IsColdPartition content control settings registry disks h → HaveStopped 0 h.nodes
  cold_stops settings registry disks h c b x at = cold_nodes_stop settings disks h.nodes b x c.nodes at
