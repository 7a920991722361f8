-- What each call leaves of the registry: as many replicas, and its epoch and leader, or the next epoch.
use Rattle.std.proofs.Common.{◌≡◌, ◌⊎◌, inl, inr, ◌∙◌, ap, subst, refl, ℕ, suc, ◌+◌, ◌<◌, ◌==◌, List, [], ◌∷◌, length, Some, Result, Ok, Err, Bool, true, false, not, ◌&&◌, arith}
use Rattle.std.specs.Prelude.{map, nat_le}
use Rattle.std.proofs.lemmas.Bool.Decides.{nat_tests}
use Rattle.log_terms.proofs.Lists.{length-slice_set}
use Rattle.registry.specs.declared.registry.Replica.{Replica}
use Rattle.registry.specs.declared.registry.Registry.{Registry}
use Rattle.registry.specs.declared.refusal.RegRefusal.{RegRefusal}
use Rattle.registry.specs.declared.refusal.RegRefusal.TheVariants.{LastEpoch, NotInSync, DownBroker, BehindStart, StaleEpoch, IsLeader, Behind, NotAbove, AboveMark}
use Rattle.registry.specs.Replicas.{renewed, outsider, all_out}
use Rattle.registry.specs.Registry.{epoch_limit, elected, elected_alone, with_ack, shrunk, expanded, started}
use Rattle.registry.specs.Calls.{when, is_last, after_elect, after_unclean, after_ack, after_shrink, after_expand, after_raise}
use Rattle.plain_log.proofs.Options.{when_some, both, not_true}

-- the next epoch
pub record IsNext (r after : Registry) : Type 0 where
  pub epoch : after.epoch ≡ r.epoch + 1
  pub below : r.epoch < epoch_limit

-- the epoch and its leader
pub record IsSameEpoch (r after : Registry) : Type 0 where
  pub epoch : after.epoch ≡ r.epoch
  pub leader : after.leader ≡ r.leader

pub record Moves (r after : Registry) : Type 0 where
  pub count : length after.replicas ≡ length r.replicas
  pub epoch : IsSameEpoch r after ⊎ IsNext r after

stays : (r after : Registry) (b : Bool) → when b r ≡ Some after → Moves r after
stays r after b e =
    let w = when_some b r after e in
    subst (λ (k : Registry). Moves r k) w.1 (record { count = refl; epoch = inl (record { epoch = refl; leader = refl }) })

same : (r next after : Registry) (b : Bool) → when b next ≡ Some after → length next.replicas ≡ length r.replicas → next.epoch ≡ r.epoch → next.leader ≡ r.leader → Moves r after
same r next after b e count epoch leader =
    let w = when_some b next after e in
    subst (λ (k : Registry). Moves r k) w.1 (record { count = count; epoch = inl (record { epoch = epoch; leader = leader }) })

below_limit : (r : Registry) (b : Bool) → not (is_last r) && b ≡ true → r.epoch < epoch_limit
below_limit r b e = let no = not_true (is_last r) (both (not (is_last r)) b e).0 in grind (arith, nat_tests, no)

length_map : {A B : Type 0} (f : A → B) (xs : List A) → length (map f xs) ≡ length xs
length_map f [] = refl
length_map f (x ∷ xs) = ap suc (length_map f xs)

pub elect_moves : (r : Registry) (b : ℕ) (s : Replica) (up : Bool) (answer : Result ℕ RegRefusal) (after : Registry) → after_elect r b s up answer ≡ Some after → Moves r after
elect_moves r b s up (Err LastEpoch) after e = stays r after _ e
elect_moves r b s up (Err NotInSync) after e = stays r after _ e
elect_moves r b s up (Err DownBroker) after e = stays r after _ e
elect_moves r b s up (Ok epoch) after e =
    let w = when_some (not (is_last r) && s.in_sync && up && (epoch == r.epoch + 1)) (elected r b) after e in
    let t = both (not (is_last r) && s.in_sync && up) (epoch == r.epoch + 1) w.0 in
    let u = both (not (is_last r) && s.in_sync) up t.0 in
    subst (λ (k : Registry). Moves r k) w.1 (record {
      count = length_map (renewed r.mark) r.replicas;
      epoch = inr (record { epoch = refl; below = below_limit r s.in_sync u.0 });
    })
elect_moves r b s up other after e = absurd cc

pub unclean_moves : (r : Registry) (b : ℕ) (up : Bool) (flushed_end : ℕ) (answer : Result ℕ RegRefusal) (after : Registry) → after_unclean r b up flushed_end answer ≡ Some after → Moves r after
unclean_moves r b up flushed_end (Err LastEpoch) after e = stays r after _ e
unclean_moves r b up flushed_end (Err DownBroker) after e = stays r after _ e
unclean_moves r b up flushed_end (Err (BehindStart end start)) after e = stays r after _ e
unclean_moves r b up flushed_end (Ok epoch) after e =
    let w = when_some (not (is_last r) && up && nat_le r.start flushed_end && (epoch == r.epoch + 1)) (elected_alone r b flushed_end) after e in
    let t = both (not (is_last r) && up && nat_le r.start flushed_end) (epoch == r.epoch + 1) w.0 in
    let u = both (not (is_last r) && up) (nat_le r.start flushed_end) t.0 in
    subst (λ (k : Registry). Moves r k) w.1 (record {
      count = length-slice_set (all_out r.replicas) b (record { in_sync = true; acked = flushed_end }) ∙ length_map (λ (s : Replica). outsider) r.replicas;
      epoch = inr (record { epoch = refl; below = below_limit r up u.0 });
    })
unclean_moves r b up flushed_end other after e = absurd cc

pub ack_moves : (r : Registry) (b : ℕ) (s : Replica) (epoch flushed_end : ℕ) (answer : Result ℕ RegRefusal) (after : Registry) → after_ack r b s epoch flushed_end answer ≡ Some after → Moves r after
ack_moves r b s epoch flushed_end (Err (StaleEpoch current)) after e = stays r after _ e
ack_moves r b s epoch flushed_end (Ok mark) after e =
    same r (with_ack r b s flushed_end) after _ e (length-slice_set r.replicas b (record s { acked = flushed_end })) refl refl
ack_moves r b s epoch flushed_end other after e = absurd cc

pub shrink_moves : (r : Registry) (b : ℕ) (s : Replica) (answer : Result (Unit {0}) RegRefusal) (after : Registry) → after_shrink r b s answer ≡ Some after → Moves r after
shrink_moves r b s (Err NotInSync) after e = stays r after _ e
shrink_moves r b s (Err IsLeader) after e = stays r after _ e
shrink_moves r b s (Ok done) after e = same r (shrunk r b s) after _ e (length-slice_set r.replicas b (record s { in_sync = false })) refl refl
shrink_moves r b s other after e = absurd cc

pub expand_moves : (r : Registry) (b : ℕ) (s : Replica) (up : Bool) (answer : Result (Unit {0}) RegRefusal) (after : Registry) → after_expand r b s up answer ≡ Some after → Moves r after
expand_moves r b s up (Err DownBroker) after e = stays r after _ e
expand_moves r b s up (Err (Behind ack mark)) after e = stays r after _ e
expand_moves r b s up (Ok done) after e = same r (expanded r b s) after _ e (length-slice_set r.replicas b (record s { in_sync = true })) refl refl
expand_moves r b s up other after e = absurd cc

pub raise_moves : (r : Registry) (epoch wanted : ℕ) (answer : Result ℕ RegRefusal) (after : Registry) → after_raise r epoch wanted answer ≡ Some after → Moves r after
raise_moves r epoch wanted (Err (StaleEpoch current)) after e = stays r after _ e
raise_moves r epoch wanted (Err (NotAbove start)) after e = stays r after _ e
raise_moves r epoch wanted (Err (AboveMark mark)) after e = stays r after _ e
raise_moves r epoch wanted (Ok start) after e = same r (started r wanted) after _ e refl refl refl
raise_moves r epoch wanted other after e = absurd cc
