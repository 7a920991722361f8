-- The brokers' tier states follow a turn.
use Rattle.std.proofs.Common.{◌≡◌, ◌∙◌, ◌≢◌, ◌≤◌, ◌⊎◌, inl, inr, sym, ap, subst, refl, ℕ, List, length, Some, slice_get, slice_set, arith}
use Rattle.std.specs.Prelude.{map}
use Rattle.log_terms.specs.Log.{IsConsecutive}
use Rattle.log_terms.proofs.Lists.{get-set, set-same, length-slice_set}
use Rattle.plain_log.specs.declared.command.Order.{Order}
use Rattle.plain_log.specs.declared.journal.JournalEntry.{JournalEntry}
use Rattle.plain_log.specs.declared.state.Broker.{Broker}
use Rattle.plain_log.specs.declared.state.State.{State as Plain}
use Rattle.plain_log.specs.Safe.{PlainSafe}
use Rattle.plain_log.specs.Step.{step}
use Rattle.plain_log.proofs.StepLaw.{step_safe}
use Rattle.laws_partition.specs.Seen.{Node, SeenPartition}
use Rattle.laws_partition.specs.Partition.{broker_of}
use Rattle.laws_partition.specs.Central.{PartitionMatches}
use Rattle.laws_partition.specs.Sound.{NodeSound, SoundPartition}
use Rattle.tier_safe.specs.Scene.{BrokerTierView, Scene}
use Rattle.tier_safe.specs.Follow.{IdsGo, BrokerTierGoes, BrokerTiersFollow}
use Rattle.laws_tier_turns.specs.BrokerTiers.{BrokerTierModel, next_of, tier_view_of, tier_views_of}
use Rattle.laws_tier_turns.specs.Laws.{BrokerTiersFollowTurns}
use Rattle.laws_tier_turns.proofs.Places.{one_at, set_get, beside, map_at, map_has, tier_view_at, tier_view_has, tier_views_set}
use Rattle.laws_tier_turns.proofs.Nodes.{start_within, NodeGoes}
use Rattle.laws_tier_turns.proofs.Goes.{row_goes}

-- a tier state follows itself
tier_view_stays : (x : Node) (broker_tier : BrokerTierModel) → NodeSound x → BrokerTierGoes (tier_view_of x broker_tier) (tier_view_of x broker_tier) (broker_of x) (broker_of x)
tier_view_stays x broker_tier s = record {
  up = refl;
  start = omega arith;
  within = start_within x s;
  leads = λ e _ _ _. refl;
  view = refl;
  cache = refl;
  ids = inl (refl, λ u. (u, refl));
}

-- a tier state follows its node
pub tier_view_goes : (x y : Node) (broker_tier : BrokerTierModel) → NodeGoes x y → IsConsecutive 0 y.log.batches → BrokerTierGoes (tier_view_of x broker_tier) (tier_view_of y broker_tier) (broker_of x) (broker_of y)
tier_view_goes x y broker_tier g c = record {
  up = refl;
  start = g.start;
  within = g.within c;
  leads = g.leads;
  view = refl;
  cache = refl;
  ids = ids;
}
  where
    ids : IdsGo (tier_view_of x broker_tier) (tier_view_of y broker_tier)
    ids = elim g.ids [
      | inl same ↦ inl (same.0, λ u. (same.1 u, ap (next_of broker_tier) same.0))
      | inr more ↦ inr more
    ]

-- where one node and its tier state change, all tier states follow
pub one_follows : (brokers : ℕ) (h : SeenPartition) (p q : Plain) (broker_tiers : List BrokerTierModel) (b : ℕ) (x y : Node) (old new : BrokerTierView) (c : Scene) → SoundPartition brokers h → PartitionMatches h p
    → length h.nodes ≤ length broker_tiers → slice_get h.nodes b ≡ Some x → q.brokers ≡ map broker_of (slice_set h.nodes b y) → c.tier_views ≡ slice_set (tier_views_of h.nodes broker_tiers) b old
    → BrokerTierGoes old new (broker_of x) (broker_of y) → BrokerTiersFollow (slice_set (tier_views_of h.nodes broker_tiers) b new) c p q
one_follows brokers h p q broker_tiers b x y old new c sound stands count at after are goes = record {
  count = length-slice_set (tier_views_of h.nodes broker_tiers) b new ∙ sym (ap (λ (ss : List BrokerTierView). length ss) are ∙ length-slice_set (tier_views_of h.nodes broker_tiers) b old);
  each = λ d before then u v was is bu bv.
      let was' : slice_get (slice_set (tier_views_of h.nodes broker_tiers) b old) d ≡ Some before = ap (λ (ss : List BrokerTierView). slice_get ss d) (sym are) ∙ was in
      let k = map_at broker_of h.nodes d u (ap (λ (ys : List Broker). slice_get ys d) (sym stands.brokers) ∙ bu) in
      let m = map_at broker_of (slice_set h.nodes b y) d v (ap (λ (ys : List Broker). slice_get ys d) (sym after) ∙ bv) in
      follows d before then u v k.0 k.1 k.2 m.0 m.2 (get-set (tier_views_of h.nodes broker_tiers) b old d before was') (get-set (tier_views_of h.nodes broker_tiers) b new d then is) (get-set h.nodes b y d m.0 m.1);
}
  where
    follows : (d : ℕ) (before then : BrokerTierView) (u v : Broker) (z : Node) → slice_get h.nodes d ≡ Some z → u ≡ broker_of z → (w : Node) → v ≡ broker_of w
        → ((d ≡ b) × (before ≡ old)) ⊎ ((d ≢ b) × (slice_get (tier_views_of h.nodes broker_tiers) d ≡ Some before))
        → ((d ≡ b) × (then ≡ new)) ⊎ ((d ≢ b) × (slice_get (tier_views_of h.nodes broker_tiers) d ≡ Some then))
        → ((d ≡ b) × (w ≡ y)) ⊎ ((d ≢ b) × (slice_get h.nodes d ≡ Some w)) → BrokerTierGoes before then u v
    follows d before then u v z there bu w bv (inl one) (inl two) (inl three) =
        let same : x ≡ z = one_at h.nodes d x z (ap (slice_get h.nodes) one.0 ∙ at) there in
        rw (one.1, two.1, bu, bv, sym same, three.1) goes
    follows d before then u v z there bu w bv (inr one) (inr two) (inr three) =
        let k = tier_view_at h.nodes broker_tiers d before one.1 in
        let same : then ≡ before = one_at (tier_views_of h.nodes broker_tiers) d then before two.1 one.1 in
        let node : w ≡ k.node = one_at h.nodes d w k.node three.1 k.node_at in
        let other : z ≡ k.node = one_at h.nodes d z k.node there k.node_at in
        rw (same, k.is, bu, bv, node, other) (tier_view_stays k.node k.broker_tier (sound.nodes d k.node k.node_at))
    follows d before then u v z there bu w bv (inl one) (inr two) three = absurd (two.0 one.0)
    follows d before then u v z there bu w bv (inr one) (inl two) three = absurd (one.0 two.0)
    follows d before then u v z there bu w bv (inl one) two (inr three) = absurd (three.0 one.0)
    follows d before then u v z there bu w bv (inr one) two (inl three) = absurd (one.0 three.0)

-- a log of the plain log's state after a turn is one
pub log_after : (h' : SeenPartition) (p q : Plain) (order : Order) (entry : JournalEntry) (b : ℕ) (y : Node) → PartitionMatches h' q → step p order entry ≡ Some q → PlainSafe p
    → slice_get h'.nodes b ≡ Some y → IsConsecutive 0 y.log.batches
log_after h' p q order entry b y stands is safe at =
    let there : slice_get q.brokers b ≡ Some (broker_of y) = ap (λ (ys : List Broker). slice_get ys b) stands.brokers ∙ map_has broker_of h'.nodes b y at in
    ((step_safe p order entry q is safe).brokers b (broker_of y) there).log.consecutive

pub tier_views_follow : BrokerTiersFollowTurns
tier_views_follow brokers h h' p q x snapshot turned order entry broker_tiers c t safe shows low =
    let b = order.broker.0 in
    let g = row_goes h b x snapshot order.command turned h' t.node (t.sound.nodes b x t.node) t.row low in
    let y = g.node in
    let broker_tier = beside h.nodes broker_tiers b x shows.count t.node in
    let there : slice_get h'.nodes b ≡ Some y = ap (λ (ns : List Node). slice_get ns b) g.are ∙ set_get h.nodes b x y t.node in
    let log = log_after h' p q order entry b y t.after t.is safe there in
    let was : c.tier_views ≡ slice_set (tier_views_of h.nodes broker_tiers) b (tier_view_of x broker_tier.0) =
    shows.are ∙ sym (set-same (tier_views_of h.nodes broker_tiers) b (tier_view_of x broker_tier.0) (tier_view_has h.nodes broker_tiers b x broker_tier.0 t.node broker_tier.1)) in
    let new : tier_views_of h'.nodes broker_tiers ≡ slice_set (tier_views_of h.nodes broker_tiers) b (tier_view_of y broker_tier.0) = ap (λ (ns : List Node). tier_views_of ns broker_tiers) g.are ∙ tier_views_set h.nodes broker_tiers b y broker_tier.0 broker_tier.1 in
    let after : q.brokers ≡ map broker_of (slice_set h.nodes b y) = t.after.brokers ∙ ap (map broker_of) g.are in
    subst (λ (ss : List BrokerTierView). BrokerTiersFollow ss c p q) (sym new)
    (one_follows brokers h p q broker_tiers b x y (tier_view_of x broker_tier.0) (tier_view_of y broker_tier.0) c t.sound t.before shows.count t.node after was (tier_view_goes x y broker_tier.0 g.goes log))
