-- A trim lets the local log start later, and then the plain log takes its step.
use Rattle.std.proofs.Common.{◌≡◌, ◌∙◌, inl, sym, ap, subst, refl, ℕ, ◌≤◌, List, [], ◌∷◌, Some, true, slice_get, slice_set, max, arith}
use Rattle.std.specs.Prelude.{map}
use Rattle.log_terms.specs.Log.{end_of}
use Rattle.log_terms.proofs.Logs.{ends_below}
use Rattle.registry.specs.declared.registry.Registry.{Registry}
use Rattle.plain_log.specs.declared.command.Order.{Order}
use Rattle.plain_log.specs.declared.journal.JournalEntry.{JournalEntry}
use Rattle.plain_log.specs.declared.state.State.{State as Plain}
use Rattle.laws_partition.specs.declared.start_snapshot.StartSnapshot.{StartSnapshot}
use Rattle.laws_partition.specs.declared.start_snapshot.Turned.{Turned}
use Rattle.laws_partition.specs.Seen.{Node, SeenPartition}
use Rattle.laws_partition.specs.Partition.{broker_of, broken, kept_line, put_node}
use Rattle.laws_partition.specs.RowsOfLog.{MayStartAt}
use Rattle.laws_partition.specs.Sound.{NodeSound}
use Rattle.tier_safe.specs.Scene.{BrokerTierView, Free, Scene}
use Rattle.tier_safe.specs.Changes.{Leaves, Trims, Steps, Moves, Drops, effect}
use Rattle.tier_safe.specs.Follow.{BrokerTierGoes, BrokerTiersFollow}
use Rattle.tier_safe.specs.May.{MayDropLocal}
use Rattle.laws_tier_turns.specs.BrokerTiers.{BrokerTierModel, next_of, greatest, start_of, tier_view_of, tier_views_of}
use Rattle.laws_tier_turns.specs.Turns.{TurnStands, ShowsBrokerTiers, IsTrimmed, IsTurned}
use Rattle.laws_tier_turns.proofs.Places.{set_get, beside, tier_view_has, tier_views_set}
use Rattle.laws_tier_turns.proofs.Follow.{one_follows}
use Rattle.laws_tier_turns.proofs.Chains.{left_with, broker_at}

-- what a trim makes of a node: a local start within the log, which stays, and the node is no more up
pub record NodeTrims (x y : Node) : Type 0 where
  pub within : start_of y ≤ end_of x.log.batches
  pub log : y.log.batches ≡ x.log.batches
  pub incarnation : y.incarnation ≡ x.incarnation
  pub up : y.up ≡ true → x.up ≡ true

-- a segment goes
pub node_drops : (x : Node) (start : ℕ) → NodeSound x → x.up ≡ true → MayStartAt x start → NodeTrims x (record x { local = start; saved = kept_line x })
node_drops x start s up may =
    let y : Node = record x { local = start; saved = kept_line x } in
    let high = ends_below x.flushed_end x.log.batches s.log.consecutive s.flushed_end in
    let is : start_of y ≡ start = ap (λ o. greatest start o) (s.tight up) in
    record { within = omega (arith, is, may.flushed_end, high); log = refl; incarnation = refl; up = λ u. u }

-- or the disk fails at it
pub node_fails : (x : Node) (start : ℕ) → NodeSound x → MayStartAt x start → NodeTrims x (broken x (x.flushed_end, kept_line x, start))
node_fails x start s may =
    let high = ends_below x.flushed_end x.log.batches s.log.consecutive s.flushed_end in
    let is : start_of (broken x (x.flushed_end, kept_line x, start)) ≡ max x.local start = refl in
    record { within = omega (arith, is, may.flushed_end, s.within, high); log = refl; incarnation = refl; up = λ u. absurd cc }

pub trims : (brokers : ℕ) (h h' : SeenPartition) (p q : Plain) (x y : Node) (g : StartSnapshot) (turned : Turned) (order : Order) (entry : JournalEntry) (broker_tiers : List BrokerTierModel) (c : Scene) (a : ℕ)
    → TurnStands brokers h h' p q x (Some g) turned order entry → ShowsBrokerTiers h broker_tiers c → NodeTrims x y → h' ≡ put_node h order.broker.0 y
    → ((z : Node) (broker_tier : BrokerTierModel) → slice_get h'.nodes order.broker.0 ≡ Some z → slice_get broker_tiers order.broker.0 ≡ Some broker_tier → IsTrimmed h.registry.start x z broker_tier)
    → IsTurned c p q (left_with c a (tier_views_of h'.nodes broker_tiers) Free)
trims brokers h h' p q x y g turned order entry broker_tiers c a t shows n same owes = record {
  changes = Drops b (tier_view_of x broker_tier) (start_of y) Trims ∷ Steps (tier_views_of h'.nodes broker_tiers) ∷ Moves a Leaves ∷ [];
  may = (p, (refl, drop), (q, record { order = order; entry = entry; is = t.is; follow = follow }, (q, (refl, tt), refl)));
  is = refl;
}
  where
    b : ℕ
    b = order.broker.0

    there : (s : BrokerTierModel) × (slice_get broker_tiers b ≡ Some s)
    there = beside h.nodes broker_tiers b x shows.count t.node

    broker_tier : BrokerTierModel
    broker_tier = there.0

    nodes : h'.nodes ≡ slice_set h.nodes b y
    nodes = ap (λ (k : SeenPartition). k.nodes) same

    trimmed : IsTrimmed h.registry.start x y broker_tier
    trimmed = owes y broker_tier (ap (λ (ns : List Node). slice_get ns b) nodes ∙ set_get h.nodes b x y t.node) there.1

    drop : MayDropLocal b (tier_view_of x broker_tier) (start_of y) Trims c p
    drop = record {
      tier_view_is = ap (λ (ss : List BrokerTierView). slice_get ss b) shows.are ∙ tier_view_has h.nodes broker_tiers b x broker_tier t.node there.1;
      x = broker_of x;
      broker_is = broker_at h p b x t.before t.node;
      rises = trimmed.rises;
      within = n.within;
      why = λ o low. trimmed.covered o (omega (arith, low, ap (λ (r : Registry). r.start) t.before.registry));
    }

    old : BrokerTierView
    old = record (tier_view_of x broker_tier) { start = start_of y }

    goes : BrokerTierGoes old (tier_view_of y broker_tier) (broker_of x) (broker_of y)
    goes = record {
      up = refl;
      start = omega arith;
      within = (let one = ap end_of n.log in omega (arith, n.within, one));
      leads = λ e _ _ _. refl;
      view = refl;
      cache = refl;
      ids = inl (n.incarnation, λ u. (n.up u, ap (next_of broker_tier) n.incarnation));
    }

    follow : BrokerTiersFollow (tier_views_of h'.nodes broker_tiers) (effect (Drops b (tier_view_of x broker_tier) (start_of y) Trims) c) p q
    follow = subst (λ (ss : List BrokerTierView). BrokerTiersFollow ss (effect (Drops b (tier_view_of x broker_tier) (start_of y) Trims) c) p q)
        (sym (ap (λ (ns : List Node). tier_views_of ns broker_tiers) nodes ∙ tier_views_set h.nodes broker_tiers b y broker_tier there.1))
        (one_follows brokers h p q broker_tiers b x y old (tier_view_of y broker_tier) (effect (Drops b (tier_view_of x broker_tier) (start_of y) Trims) c) t.sound t.before shows.count t.node
        (t.after.brokers ∙ ap (map broker_of) nodes) (ap (λ (ss : List BrokerTierView). slice_set ss b old) shows.are) goes)
