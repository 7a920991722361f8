-- The nodes of a fresh partition are sound.
use Rattle.std.proofs.Common.{◌≡◌, ap, subst, refl, inl, inr, ℕ, zero, suc, ◌≤◌, ◌-◌, [], ◌∷◌, length, slice_get, Some, arith}
use Rattle.std.specs.Prelude.{replicate}
use Rattle.log_terms.proofs.Logs.{ends_at_zero}
use Rattle.registry.specs.Replicas.{fresh_replica}
use Rattle.plain_log.specs.declared.state.Role.TheVariants.{Leads, Joined}
use Rattle.laws_partition.specs.Seen.{Node}
use Rattle.laws_partition.specs.Fresh.{fresh_partition_state, fresh_node}
use Rattle.laws_partition.specs.Sound.{NodeSound, SoundPartition}

pub length_replicate : {A : Type 0} (n : ℕ) (x : A) → length (replicate n x) ≡ n
length_replicate zero x = refl
length_replicate (suc n) x = ap suc (length_replicate n x)

replicate_is : {A : Type 0} (n i : ℕ) (x y : A) → slice_get (replicate n x) i ≡ Some y → x ≡ y
replicate_is zero i x y at = absurd cc
replicate_is (suc n) zero x y at = cc
replicate_is (suc n) (suc i) x y at = replicate_is n i x y at

leader_sound : NodeSound (fresh_node (Leads 0) ((0, 0) ∷ []))
leader_sound = record {
  log = record { consecutive = tt; line_is = inr (0, refl); rises = (omega arith, omega arith, tt, tt); ends = refl; small = omega arith };
  flushed_end = ends_at_zero [];
  known_high_watermark = ends_at_zero [];
  saved = inr (0, refl);
  saved_rises = (omega arith, omega arith, tt, tt);
  begins = ends_at_zero [];
  within = omega arith;
  back = λ back is. absurd cc;
  tight = λ up. refl;
  leads = λ e is. (let same : 0 ≡ e = cc (is) in ap Some same);
  down = λ is. absurd (cc (is));
}

follower_sound : NodeSound (fresh_node (Joined 0) [])
follower_sound = record {
  log = record { consecutive = tt; line_is = inl refl; rises = tt; ends = refl; small = omega arith };
  flushed_end = ends_at_zero [];
  known_high_watermark = ends_at_zero [];
  saved = inl refl;
  saved_rises = tt;
  begins = ends_at_zero [];
  within = omega arith;
  back = λ back is. absurd cc;
  tight = λ up. refl;
  leads = λ e is. absurd (cc (is));
  down = λ is. absurd (cc (is));
}

node_sound : (n b : ℕ) (x : Node) → slice_get (fresh_partition_state n).nodes b ≡ Some x → NodeSound x
node_sound n zero x at = let same : fresh_node (Leads 0) ((0, 0) ∷ []) ≡ x = cc in subst NodeSound same leader_sound
node_sound n (suc b) x at = subst NodeSound (replicate_is (n - 1) b (fresh_node (Joined 0) []) x at) follower_sound

pub fresh_sound : (n : ℕ) → 1 ≤ n → SoundPartition n (fresh_partition_state n)
fresh_sound n some = record {
  count = omega (arith, length_replicate (n - 1) (fresh_node (Joined 0) []), some);
  same = length_replicate n fresh_replica;
  epoch = omega arith;
  nodes = node_sound n;
}
