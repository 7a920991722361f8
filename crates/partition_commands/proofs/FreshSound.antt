-- A fresh world has what its turns need, over any disks.
use Rattle.std.proofs.Common.{◌≡◌, ◌∙◌, sym, ap, subst, ℕ, zero, suc, ◌^◌, ◌<◌, List, [], ◌∷◌, length, slice_get, Some, Option, Bool, true, false, arith}
use Rattle.std.specs.Prelude.{unwrap_or}
use Rattle.tier_base.specs.Device.{Control}
use Rattle.disk_model.specs.Call.{call_code}
use Rattle.epoch_line.specs.Line.{last_epoch}
use Rattle.registry.specs.declared.registry.Registry.{Registry}
use Rattle.registry.specs.Replicas.{fresh_replica}
use Rattle.plain_log.specs.declared.state.Role.TheVariants.{Leads, Joined}
use Rattle.laws_partition.proofs.FreshSound.{length_replicate}
use Rattle.partition_commands.specs.declared.partition_state.Node.{Node}
use Rattle.partition_commands.specs.declared.partition_state.PartitionState.{PartitionState}
use Rattle.partition_commands.specs.Partition.{line_of}
use Rattle.partition_commands.specs.Sound.{LeaderSound, SoundPartition}
use Rattle.partition_commands.specs.Fresh.{IsFreshNode, AreFreshFrom, IsFreshPartition}
use Rattle.partition_commands.proofs.FreshNodes.{as_many}

leads_is : (e f : ℕ) → Leads e ≡ Leads f → e ≡ f
leads_is e f is = cc (is)

joined_leads : (e f : ℕ) → Joined e ≡ Leads f → ⊥
joined_leads e f is = absurd cc

module _ {D : Type 0} where
  -- a fresh node, whatever the registry: it knows no mark
  node_sound : (r : Registry) (leads : Bool) (x : Node D) → IsFreshNode leads x → LeaderSound r x
  node_sound r true x f =
      let line : line_of x ≡ (0, 0) ∷ [] = ap (λ (o : Option (List (ℕ × ℕ))). unwrap_or o []) f.line_is in
      record {
        up = λ e is. f.up;
        leads = λ e is. ap last_epoch line ∙ ap (λ (n : ℕ). Some n) (leads_is 0 e (sym f.role_is ∙ is));
        fits = λ e is. (let same = leads_is 0 e (sym f.role_is ∙ is) in omega (arith, same));
        past = λ e is. (let same = leads_is 0 e (sym f.role_is ∙ is) in omega (arith, same));
        known_high_watermark = λ e is le. (let none = f.known_high_watermark in omega (arith, none));
        down = λ down. absurd (let up = f.up in cc);
      }
  node_sound r false x f = record {
    up = λ e is. f.up;
    leads = λ e is. absurd (joined_leads 0 e (sym f.role_is ∙ is));
    fits = λ e is. absurd (joined_leads 0 e (sym f.role_is ∙ is));
    past = λ e is. absurd (joined_leads 0 e (sym f.role_is ∙ is));
    known_high_watermark = λ e is le. absurd (joined_leads 0 e (sym f.role_is ∙ is));
    down = λ down. absurd (let up = f.up in cc);
  }

module _ {D : Type 0} (control : D → Control call_code) where
  nodes_sound : (r : Registry) (leads : Bool) (disks : List D) (xs : List (Node D)) (b : ℕ) (x : Node D) → AreFreshFrom control leads disks xs → slice_get xs b ≡ Some x → LeaderSound r x
  nodes_sound r leads [] [] b x f at = absurd cc
  nodes_sound r leads [] (y ∷ xs) b x f at = absurd f
  nodes_sound r leads (d ∷ disks) [] b x f at = absurd f
  nodes_sound r leads (d ∷ disks) (y ∷ xs) zero x f at = let same : y ≡ x = cc in subst (LeaderSound r) same (node_sound r leads y f.0.node)
  nodes_sound r leads (d ∷ disks) (y ∷ xs) (suc b) x f at = nodes_sound r false disks xs b x f.1 at

  pub fresh_sound : (n : ℕ) (disks : List D) (h : PartitionState D) → length disks ≡ n → IsFreshPartition control disks h → SoundPartition n h
  fresh_sound n disks h count f = record {
    count = as_many control true disks h.nodes f.nodes ∙ count;
    same = ap (λ (r : Registry). length r.replicas) f.registry ∙ (length_replicate (length disks) fresh_replica ∙ count);
    epoch = subst (λ (r : Registry). r.epoch < 2 ^ 31) (sym f.registry) (omega arith);
    nodes = λ b x at. nodes_sound h.registry true disks h.nodes b x f.nodes at;
  }
