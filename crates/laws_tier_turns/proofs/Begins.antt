-- A join that begins: the plain log cuts the log, and the rebuild comes onto the desk. Its leader is up and leads the epoch
-- that the log follows, so the leader's log is that epoch's path.
use Rattle.std.proofs.Common.{◌≡◌, ◌≢◌, ◌∙◌, sym, ap, subst, refl, ℕ, ◌&&◌, ◌≤◌, List, [], ◌∷◌, Option, None, Some, true, slice_get, unwrap_or, arith}
use Rattle.log_terms.specs.Log.{EndsAt}
use Rattle.log_terms.proofs.Lists.{and_then_some, prefix_self}
use Rattle.registry.specs.declared.registry.Registry.{Registry}
use Rattle.plain_log.specs.declared.command.Order.{Order}
use Rattle.plain_log.specs.declared.journal.JournalEntry.{JournalEntry}
use Rattle.plain_log.specs.declared.state.Path.{Path}
use Rattle.plain_log.specs.declared.state.State.{State as Plain}
use Rattle.plain_log.specs.declared.state.Role.{Role}
use Rattle.plain_log.specs.declared.state.Role.TheVariants.{Idle, Leads, Follows, Joined}
use Rattle.plain_log.specs.State.{leads_in, followed, joined, path_of}
use Rattle.plain_log.specs.Safe.{RoleSafe, PlainSafe}
use Rattle.plain_log.proofs.Options.{when_some, both, eq_of}
use Rattle.plain_log.proofs.StepLaw.{step_safe}
use Rattle.laws_partition.specs.declared.start_snapshot.StartSnapshot.{StartSnapshot}
use Rattle.laws_partition.specs.declared.start_snapshot.Turned.TheVariants.{Begins}
use Rattle.laws_partition.specs.Seen.{Node, SeenPartition}
use Rattle.laws_partition.specs.Partition.{broker_of, the_leader, put_node}
use Rattle.laws_partition.specs.RowsOfFollowers.{IsCurrent, IsMeet, cut_node, Wants as WantsSeen, JoinRow}
use Rattle.laws_partition.proofs.BoolTests.{some_of}
use Rattle.tier_safe.specs.Scene.{Free, Rebuilds, Scene}
use Rattle.tier_safe.specs.Changes.{Wants, Steps, Moves, effect}
use Rattle.tier_safe.specs.Moves.{MayWant}
use Rattle.tier_safe.specs.Follow.{MayStep}
use Rattle.laws_tier_turns.specs.BrokerTiers.{BrokerTierModel, tier_view_of, tier_views_of}
use Rattle.laws_tier_turns.specs.TierTasks.{rebuild_of}
use Rattle.laws_tier_turns.specs.Turns.{TurnStands, ShowsBrokerTiers, IsTurned}
use Rattle.laws_tier_turns.proofs.Places.{one_at, set_other, beside, tier_view_has}
use Rattle.laws_tier_turns.proofs.Nodes.{start_up}
use Rattle.laws_tier_turns.proofs.Chains.{left_with, broker_at}

leads_is : (r : Role) (n : ℕ) → leads_in n r ≡ true → r ≡ Leads n
leads_is Idle n t = absurd cc
leads_is (Leads e) n t = ap Leads (eq_of e n t)
leads_is (Follows e) n t = absurd cc
leads_is (Joined e) n t = absurd cc

-- a leader follows nobody
none_both : (r : Role) (n e : ℕ) → r ≡ Leads n → followed r ≡ Some e → ⊥
none_both Idle n e is f = absurd cc
none_both (Leads m) n e is f = absurd cc
none_both (Follows m) n e is f = absurd cc
none_both (Joined m) n e is f = absurd cc

-- the epoch that a broker follows isn't above the registry's
follows_below : (paths : List Path) (epoch e : ℕ) (r : Role) (log : List (List ℕ)) → RoleSafe paths epoch r log → followed r ≡ Some e → e ≤ epoch
follows_below paths epoch e Idle log k f = absurd cc
follows_below paths epoch e (Leads m) log k f = absurd cc
follows_below paths epoch e (Follows m) log k f = (let same : m ≡ e = cc (f) in omega (arith, same, k))
follows_below paths epoch e (Joined m) log k f = (let same : m ≡ e = cc (f) in omega (arith, same, k.0))

-- an epoch that isn't stale isn't below the registry's
current_above : (h : SeenPartition) (o : Option ℕ) (e : ℕ) → IsCurrent h o → o ≡ Some e → h.registry.epoch ≤ e
current_above h None e k is = absurd cc
current_above h (Some m) e k is = (let same : m ≡ e = cc (is) in omega (arith, same, k))

-- the registry's leader, where it leads
record IsLed (h : SeenPartition) (y : Node) : Type 0 where
  at : slice_get h.nodes h.registry.leader.0 ≡ Some y
  up : y.up ≡ true
  leads : y.role ≡ Leads h.registry.epoch

is_led : (h : SeenPartition) (y : Node) → the_leader h ≡ Some y → IsLed h y
is_led h y is =
    let k = and_then_some _ (slice_get h.nodes h.registry.leader.0) y is in
    let m = when_some (k.0.up && leads_in h.registry.epoch k.0.role) k.0 y k.2 in
    let t = both k.0.up (leads_in h.registry.epoch k.0.role) m.0 in
    subst (λ (z : Node). IsLed h z) m.1 (record { at = k.1; up = t.0; leads = leads_is k.0.role h.registry.epoch t.1 })

pub begins : (brokers : ℕ) (h h' : SeenPartition) (p q : Plain) (x : Node) (g : StartSnapshot) (order : Order) (entry : JournalEntry) (broker_tiers : List BrokerTierModel) (c : Scene) (a : ℕ)
    → TurnStands brokers h h' p q x None (Begins g) order entry → PlainSafe p → ShowsBrokerTiers h broker_tiers c → MayStep (tier_views_of h'.nodes broker_tiers) c p q
    → JoinRow h order.broker.0 x (Begins g) h' → slice_get c.desk a ≡ Some Free
    → IsTurned c p q (left_with c a (tier_views_of h'.nodes broker_tiers) (Rebuilds (rebuild_of order.broker.0 g)))
begins brokers h h' p q x g order entry broker_tiers c a t safe shows step row actor_state = record {
  changes = Steps (tier_views_of h'.nodes broker_tiers) ∷ Moves a (Wants (rebuild_of b g)) ∷ [];
  may = (q, step, (q, (refl, want), refl));
  is = refl;
}
  where
    b : ℕ
    b = order.broker.0

    leader : ℕ
    leader = h.registry.leader.0

    found : (y : Node) × (the_leader h ≡ Some y) × ((e m : ℕ) × (followed x.role ≡ Some e) × IsMeet x y m × WantsSeen h (cut_node x e m) y g × (h' ≡ put_node h b (cut_node x e m)))
    found = some_of _ (the_leader h) row.2

    y : Node
    y = found.0

    led : IsLed h y
    led = is_led h y found.1

    e : ℕ
    e = found.2.0

    wants : WantsSeen h (cut_node x e found.2.1) y g
    wants = found.2.4

    -- the leader is another broker, which stays as it was
    apart : b ≢ leader
    apart = λ same. none_both y.role h.registry.epoch e led.leads
        (subst (λ (z : Node). followed z.role ≡ Some e) (one_at h.nodes leader x y (ap (slice_get h.nodes) (sym same) ∙ t.node) led.at) found.2.2)

    stays : slice_get h'.nodes leader ≡ Some y
    stays = ap (λ (k : SeenPartition). slice_get k.nodes leader) found.2.5 ∙ set_other h.nodes b leader (cut_node x e found.2.1) apart ∙ led.at

    broker_tier : (s : BrokerTierModel) × (slice_get broker_tiers leader ≡ Some s)
    broker_tier = beside h.nodes broker_tiers leader y shows.count led.at

    -- it leads the epoch that the follower joins
    epoch : h.registry.epoch ≡ e
    epoch =
        let high = follows_below p.paths p.registry.epoch e x.role x.log.batches (safe.brokers b (broker_of x) (broker_at h p b x t.before t.node)).role found.2.2 in
        let low = current_above h (followed x.role) e row.1 found.2.2 in
        omega (arith, high, low, ap (λ (r : Registry). r.epoch) t.before.registry)

    path : path_of q.paths h.registry.epoch ≡ Some y.log.batches
    path = (subst (λ (r : Role). RoleSafe q.paths q.registry.epoch r y.log.batches) led.leads
        ((step_safe p order entry q t.is safe).brokers leader (broker_of y) (broker_at h' q leader y t.after stays)).role).1

    joins : (rebuild_of b g).epoch ≡ e
    joins = ap (λ (r : Role). unwrap_or (joined r) 0) wants.role

    want : MayWant a (rebuild_of b g) (effect (Steps (tier_views_of h'.nodes broker_tiers)) c) q
    want =
        let s = t.sound.nodes leader y led.at in
        let begin : EndsAt y.local y.log.batches = s.begins in
        record {
          actor_state = actor_state;
          unread = (refl, refl);
          leader = leader;
          tier_view = tier_view_of y broker_tier.0;
          tier_view_is = tier_view_has h'.nodes broker_tiers leader y broker_tier.0 stays broker_tier.1;
          x = broker_of y;
          broker_is = broker_at h' q leader y t.after stays;
          has = (y.log.batches, ap (path_of q.paths) (joins ∙ sym epoch) ∙ path, prefix_self y.log.batches);
          start = start_up y s led.up ∙ sym wants.wanted;
          front = begin.0;
          begins = begin.1;
          ends = begin.2 ∙ sym wants.wanted;
          above = wants.above;
        }
