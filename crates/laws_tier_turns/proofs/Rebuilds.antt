-- A rebuild that ends: the plain log's step makes the log the path up to the wanted offset, the local log starts there, and
-- the rebuild leaves the desk. Where the disk failed at it, it may come back so.
use Rattle.std.proofs.Common.{◌≡◌, ◌∙◌, inl, inr, sym, ap, subst, refl, ℕ, ◌+◌, ◌≤◌, ◌<◌, nat_lt, List, [], ◌∷◌, Option, None, Some, true, slice_get, slice_set, unwrap_or, max, arith}
use Rattle.std.specs.Prelude.{map, option_map}
use Rattle.std.proofs.lemmas.Bool.{cases_lt}
use Rattle.std.proofs.lemmas.Bool.Decides.{nat_tests}
use mathlib.Core.List.{IsPrefix}
use Rattle.log_terms.specs.Log.{end_of, up_to}
use Rattle.log_terms.proofs.Lists.{and_then_some, set-same}
use Rattle.log_terms.proofs.Logs.{ends_below, up_to_prefix}
use Rattle.registry.specs.declared.registry.Registry.{Registry}
use Rattle.registry.specs.declared.registry.Replica.{Replica}
use Rattle.plain_log.specs.declared.answer.Answer.{Answer}
use Rattle.plain_log.specs.declared.answer.Answer.TheVariants.{DiskFaultAt, Rebuilt}
use Rattle.plain_log.specs.declared.command.Command.{Command}
use Rattle.plain_log.specs.declared.command.Command.TheVariants.{Join}
use Rattle.plain_log.specs.declared.command.Order.{Order}
use Rattle.plain_log.specs.declared.journal.Event.{Event}
use Rattle.plain_log.specs.declared.journal.Event.TheVariants.{Answers as Answered}
use Rattle.plain_log.specs.declared.journal.JournalEntry.{JournalEntry}
use Rattle.plain_log.specs.declared.state.Actor.{Actor}
use Rattle.plain_log.specs.declared.state.Broker.{Broker}
use Rattle.plain_log.specs.declared.state.PlainSnapshot.{PlainSnapshot}
use Rattle.plain_log.specs.declared.state.State.{State as Plain}
use Rattle.plain_log.specs.declared.state.Role.{Role}
use Rattle.plain_log.specs.declared.state.Role.TheVariants.{Joined}
use Rattle.plain_log.specs.State.{followed, joined, path_of, stopped, put_broker, breaks, actor_at, with_actor}
use Rattle.plain_log.specs.Ends.{is_end}
use Rattle.plain_log.specs.RowsOfFollowers.{extended, rebuilt as rebuilt_broker}
use Rattle.plain_log.specs.Refusals.{unless}
use Rattle.plain_log.specs.Rows.{row, refusal_at}
use Rattle.plain_log.specs.Step.{event_step, step}
use Rattle.plain_log.specs.Safe.{HasOnPath, HasJoined, PlainSafe, is_followers}
use Rattle.plain_log.proofs.Options.{when_some, map_some, both, eq_of}
use Rattle.plain_log.proofs.StepLaw.{step_of}
use Rattle.laws_partition.specs.declared.start_snapshot.StartSnapshot.{StartSnapshot}
use Rattle.laws_partition.specs.declared.start_snapshot.Turned.TheVariants.{Answers}
use Rattle.laws_partition.specs.Seen.{Node, SeenPartition}
use Rattle.laws_partition.specs.Partition.{broker_of, recorded_of, put_node}
use Rattle.laws_partition.specs.RowsOfFollowers.{IsStale, GoesOn, rebuilt, unbuilt}
use Rattle.laws_partition.specs.Sound.{NodeSound}
use Rattle.tier_safe.specs.Scene.{BrokerTierView, Rebuild, Free, Rebuilds, Scene}
use Rattle.tier_safe.specs.Changes.{Leaves, Restarts, Steps, Moves, Drops, effect}
use Rattle.tier_safe.specs.Follow.{BrokerTierGoes, BrokerTiersFollow}
use Rattle.tier_safe.specs.May.{MayDropLocal}
use Rattle.laws_tier_turns.specs.BrokerTiers.{BrokerTierModel, next_of, greatest, start_of, tier_view_of, tier_views_of}
use Rattle.laws_tier_turns.specs.Turns.{TurnStands, ShowsBrokerTiers, IsTurned}
use Rattle.laws_tier_turns.proofs.Places.{one_at, set_get, set_set, beside, tier_view_has, tier_views_set}
use Rattle.laws_tier_turns.proofs.Nodes.{start_within}
use Rattle.laws_tier_turns.proofs.Follow.{one_follows}
use Rattle.laws_tier_turns.proofs.Chains.{left_with, broker_at}

-- the log's broker after the plain log's step: the path up to n, past where the log ended
record Restarted (p q : Plain) (b : ℕ) (x : Broker) (n : ℕ) : Type 0 where
  epoch : ℕ
  follows : followed x.role ≡ Some epoch
  path : List (List ℕ)
  path_is : path_of q.paths epoch ≡ Some path
  ends : end_of (up_to n path) ≡ n
  above : end_of x.log < n
  broker : Broker
  log : broker.log ≡ up_to n path
  brokers : q.brokers ≡ slice_set p.brokers b broker

-- what a rebuild makes of a broker
record Made (p : Plain) (x : Broker) (n : ℕ) (z : Broker) : Type 0 where
  epoch : ℕ
  follows : followed x.role ≡ Some epoch
  path : List (List ℕ)
  path_is : path_of p.paths epoch ≡ Some path
  ends : end_of (up_to n path) ≡ n
  above : end_of x.log < n
  log : z.log ≡ up_to n path

made : (p : Plain) (x : Broker) (recorded : PlainSnapshot) (n : ℕ) (z : Broker) → rebuilt_broker p x recorded n ≡ Some z → Made p x n z
made p x recorded n z is =
    let k = and_then_some _ (extended p x n) z is in
    let m = when_some _ k.0 z k.2 in
    let e = and_then_some _ (followed x.role) k.0 k.1 in
    let path = and_then_some _ (path_of p.paths e.0) k.0 e.2 in
    let w = when_some _ _ k.0 path.2 in
    let t = both (is_end n path.0) (nat_lt (end_of x.log) n) w.0 in
    record {
      epoch = e.0;
      follows = e.1;
      path = path.0;
      path_is = path.1;
      ends = eq_of (end_of (up_to n path.0)) n t.0;
      above = grind (arith, nat_tests, t.1);
      log = ap (λ (y : Broker). y.log) (sym m.1) ∙ ap (λ (y : Broker). y.log) (sym w.1);
    }

-- the plain log with it in its place
put_made : (p r q : Plain) (b : ℕ) (x : Broker) (n : ℕ) (z w : Broker) (a : ℕ) (y : Actor) → Made p x n z → w.log ≡ z.log → put_broker p b w ≡ r → with_actor a y r ≡ q → Restarted p q b x n
put_made p r q b x n z w a y m same put after = record {
  epoch = m.epoch;
  follows = m.follows;
  path = m.path;
  path_is = ap (λ (t : Plain). path_of t.paths m.epoch) (sym all) ∙ m.path_is;
  ends = m.ends;
  above = m.above;
  broker = w;
  log = same ∙ m.log;
  brokers = ap (λ (t : Plain). t.brokers) (sym all);
}
  where
    all : with_actor a y (put_broker p b w) ≡ q
    all = ap (with_actor a y) put ∙ after

-- a rebuild that ended wasn't refused
not_refused : (p r : Plain) (why : Option Answer) (n : ℕ) (effect : Option Plain) → unless why (Rebuilt n) p effect ≡ Some r → effect ≡ Some r
not_refused p r None n effect is = is
not_refused p r (Some reason) n effect is = absurd cc

-- nor was one whose disk failed
not_refused_torn : (p r : Plain) (why : Option Answer) (n : ℕ) (effect : Option Plain) → unless why (DiskFaultAt n) p effect ≡ Some r → effect ≡ Some r
not_refused_torn p r None n effect is = is
not_refused_torn p r (Some reason) n effect is = absurd cc

-- the step of a rebuild that ended
restarted : (p q : Plain) (b : ℕ) (x : Broker) (s : Replica) (recorded : PlainSnapshot) (a : ℕ) (y : Actor) (n : ℕ) → option_map (with_actor a y) (row p b x s (Some recorded) Join (Rebuilt n)) ≡ Some q
    → Restarted p q b x n
restarted p q b x s recorded a y n is =
    let k = map_some (with_actor a y) (row p b x s (Some recorded) Join (Rebuilt n)) q is in
    let z = map_some _ (rebuilt_broker p x recorded n) k.0 (not_refused p k.0 (refusal_at p b x (Some recorded) Join) n _ k.1) in
    put_made p k.0 q b x n z.0 (record z.0 { flushed_end = n }) a y (made p x recorded n z.0 z.1) refl z.2 k.2

-- and of one whose disk failed
torn_down : (p q : Plain) (b : ℕ) (x : Broker) (s : Replica) (recorded : PlainSnapshot) (a : ℕ) (y : Actor) (n : ℕ) → option_map (with_actor a y) (row p b x s (Some recorded) Join (DiskFaultAt n)) ≡ Some q
    → Restarted p q b x n
torn_down p q b x s recorded a y n is =
    let k = map_some (with_actor a y) (row p b x s (Some recorded) Join (DiskFaultAt n)) q is in
    let z = map_some (breaks p b) (rebuilt_broker p x recorded n) k.0 (not_refused_torn p k.0 (refusal_at p b x (Some recorded) Join) n _ k.1) in
    put_made p k.0 q b x n z.0 (record (stopped z.0) { loose = true }) a y (made p x recorded n z.0 z.1) refl z.2 k.2

-- that of a turn
of_turn : (p q : Plain) (x : Node) (g : StartSnapshot) (answer : Answer) (order : Order) (entry : JournalEntry) → step p order entry ≡ Some q
    → slice_get p.brokers order.broker.0 ≡ Some (broker_of x) → (actor_at p.actors entry.actor.0).snapshot ≡ Some (recorded_of order g) → order.command ≡ Join → entry.event ≡ Answered answer
    → (s : Replica) × (y : Actor) × (option_map (with_actor entry.actor.0 y) (row p order.broker.0 (broker_of x) s (Some (recorded_of order g)) Join answer) ≡ Some q)
of_turn p q x g answer order entry is at recorded command event =
    let k = step_of p order entry q is in
    let same = one_at p.brokers order.broker.0 k.broker (broker_of x) k.at at in
    let actor = actor_at p.actors entry.actor.0 in
    let y : Actor = record { number = actor.number + 1; snapshot = None } in
    let one : event_step p entry.actor.0 actor order (broker_of x) k.replica (Answered answer) ≡ Some q =
    subst (λ (v : Event). event_step p entry.actor.0 actor order (broker_of x) k.replica v ≡ Some q) event
    (subst (λ (z : Broker). event_step p entry.actor.0 actor order z k.replica entry.event ≡ Some q) same k.event) in
    let two : option_map (with_actor entry.actor.0 y) (row p order.broker.0 (broker_of x) k.replica (Some (recorded_of order g)) order.command answer) ≡ Some q =
    subst (λ (o : Option PlainSnapshot). option_map (with_actor entry.actor.0 y) (row p order.broker.0 (broker_of x) k.replica o order.command answer) ≡ Some q) recorded one in
    (k.replica, y, subst (λ (m : Command). option_map (with_actor entry.actor.0 y) (row p order.broker.0 (broker_of x) k.replica (Some (recorded_of order g)) m answer) ≡ Some q) command two)

-- the follower has the role still that it had
still_joined : (h : SeenPartition) (p : Plain) (x : Node) (g : StartSnapshot) (order : Order) (a : ℕ) → PlainSafe p → p.registry ≡ h.registry → slice_get p.brokers order.broker.0 ≡ Some (broker_of x)
    → (actor_at p.actors a).snapshot ≡ Some (recorded_of order g) → order.command ≡ Join → GoesOn h x g → (e : ℕ) × (g.role ≡ Joined e) × (x.role ≡ Joined e)
still_joined h p x g order a safe same at recorded command on =
    let k = safe.recorded a (recorded_of order g) (broker_of x) recorded at in
    let j : HasJoined p.registry.epoch (recorded_of order g) (broker_of x) = k.joined (ap is_followers command) in
    let fresh : h.registry.epoch ≤ j.0 = elim (cases_lt j.0 h.registry.epoch) [
      | inl less ↦ absurd (on.1 (subst (λ (o : Option ℕ). IsStale h o) (sym (ap followed j.1)) less))
      | inr more ↦ more
    ] in
    (j.0, j.1, j.2 on.0 (omega (arith, fresh, ap (λ (r : Registry). r.epoch) same)) ∙ j.1)

-- what a rebuild makes of a node: one that starts where its log ends
pub record NodeRestarts (x y : Node) (n : ℕ) : Type 0 where
  pub start : end_of x.log.batches < n → start_of y ≡ n
  pub incarnation : y.incarnation ≡ x.incarnation
  pub up : y.up ≡ true → x.up ≡ true

pub node_rebuilds : (x : Node) (whole : List (List ℕ)) (n : ℕ) → NodeSound x → x.up ≡ true → NodeRestarts x (rebuilt x whole n) n
node_rebuilds x whole n s up = record { start = λ above. ap (greatest n) (s.tight up); incarnation = refl; up = λ u. u }

pub node_unbuilds : (x : Node) (whole : List (List ℕ)) (n : ℕ) → NodeSound x → NodeRestarts x (unbuilt x whole n) n
node_unbuilds x whole n s = record {
  start = λ above.
      let high = ends_below x.flushed_end x.log.batches s.log.consecutive s.flushed_end in
      let is : start_of (unbuilt x whole n) ≡ max x.local n = refl in
      omega (arith, above, is, s.within, high);
  incarnation = refl;
  up = λ u. absurd cc;
}

restarts : (brokers : ℕ) (h h' : SeenPartition) (p q : Plain) (x y : Node) (g : StartSnapshot) (answer : Answer) (order : Order) (entry : JournalEntry) (broker_tiers : List BrokerTierModel) (c : Scene) (a n : ℕ) (rebuild : Rebuild)
    → TurnStands brokers h h' p q x (Some g) (Answers answer) order entry → ShowsBrokerTiers h broker_tiers c → Restarted p q order.broker.0 (broker_of x) n → NodeRestarts x y n
    → h' ≡ put_node h order.broker.0 y → slice_get c.desk a ≡ Some (Rebuilds rebuild) → followed x.role ≡ Some rebuild.epoch → rebuild.wanted ≡ n
    → IsTurned c p q (left_with c a (tier_views_of h'.nodes broker_tiers) Free)
restarts brokers h h' p q x y g answer order entry broker_tiers c a n rebuild t shows r m same actor_state role wanted = record {
  changes = Steps stepped ∷ Drops b between (start_of y) (Restarts a rebuild) ∷ Moves a Leaves ∷ [];
  may = (q, record { order = order; entry = entry; is = t.is; follow = follow }, (q, (refl, drop), (q, (refl, tt), refl)));
  is = ap (λ (ss : List BrokerTierView). left_with c a ss Free) (set_set (tier_views_of h.nodes broker_tiers) b between (tier_view_of y broker_tier) ∙ sym tier_views);
}
  where
    b : ℕ
    b = order.broker.0

    there : (s : BrokerTierModel) × (slice_get broker_tiers b ≡ Some s)
    there = beside h.nodes broker_tiers b x shows.count t.node

    broker_tier : BrokerTierModel
    broker_tier = there.0

    nodes : h'.nodes ≡ slice_set h.nodes b y
    nodes = ap (λ (k : SeenPartition). k.nodes) same

    tier_views : tier_views_of h'.nodes broker_tiers ≡ slice_set (tier_views_of h.nodes broker_tiers) b (tier_view_of y broker_tier)
    tier_views = ap (λ (ns : List Node). tier_views_of ns broker_tiers) nodes ∙ tier_views_set h.nodes broker_tiers b y broker_tier there.1

    -- the tier state after the plain log's step: its local start is what it was
    between : BrokerTierView
    between = record (tier_view_of y broker_tier) { start = start_of x }

    stepped : List BrokerTierView
    stepped = slice_set (tier_views_of h.nodes broker_tiers) b between

    at : slice_get q.brokers b ≡ Some (broker_of y)
    at = broker_at h' q b y t.after (ap (λ (ns : List Node). slice_get ns b) nodes ∙ set_get h.nodes b x y t.node)

    log : y.log.batches ≡ up_to n r.path
    log =
        let one : slice_get q.brokers b ≡ Some r.broker =
        ap (λ (ys : List Broker). slice_get ys b) r.brokers ∙ set_get p.brokers b (broker_of x) r.broker (broker_at h p b x t.before t.node) in
        ap (λ (z : Broker). z.log) (one_at q.brokers b (broker_of y) r.broker at one) ∙ r.log

    ends : end_of y.log.batches ≡ n
    ends = ap end_of log ∙ r.ends

    low : start_of x ≤ end_of x.log.batches
    low = start_within x (t.sound.nodes b x t.node)

    goes : BrokerTierGoes (tier_view_of x broker_tier) between (broker_of x) (broker_of y)
    goes = record {
      up = refl;
      start = omega arith;
      within = omega (arith, low, r.above, ends);
      leads = λ e _ _ _. refl;
      view = refl;
      cache = refl;
      ids = inl (m.incarnation, λ u. (m.up u, ap (next_of broker_tier) m.incarnation));
    }

    follow : BrokerTiersFollow stepped c p q
    follow = one_follows brokers h p q broker_tiers b x y (tier_view_of x broker_tier) between c t.sound t.before shows.count t.node (t.after.brokers ∙ ap (map broker_of) nodes)
        (shows.are ∙ sym (set-same (tier_views_of h.nodes broker_tiers) b (tier_view_of x broker_tier) (tier_view_has h.nodes broker_tiers b x broker_tier t.node there.1))) goes

    has : HasOnPath q.paths rebuild.epoch y.log.batches
    has =
        let one : r.epoch ≡ rebuild.epoch = cc (r.follows, role) in
        (r.path, ap (path_of q.paths) (sym one) ∙ r.path_is, subst (λ (w : List (List ℕ)). IsPrefix w r.path) (sym log) (up_to_prefix n r.path))

    start : start_of y ≡ n
    start = m.start r.above

    drop : MayDropLocal b between (start_of y) (Restarts a rebuild) (effect (Steps stepped) c) q
    drop = record {
      tier_view_is = set_get (tier_views_of h.nodes broker_tiers) b (tier_view_of x broker_tier) between (tier_view_has h.nodes broker_tiers b x broker_tier t.node there.1);
      x = broker_of y;
      broker_is = at;
      rises = omega (arith, low, r.above, start);
      within = omega (arith, start, ends);
      why = (actor_state, wanted ∙ sym start, ends ∙ sym start, has);
    }

-- a rebuild that ends
pub rebuild_ends : (brokers : ℕ) (h h' : SeenPartition) (p q : Plain) (x y : Node) (g : StartSnapshot) (n : ℕ) (order : Order) (entry : JournalEntry) (broker_tiers : List BrokerTierModel) (c : Scene) (a : ℕ) (rebuild : Rebuild)
    → TurnStands brokers h h' p q x (Some g) (Answers (Rebuilt n)) order entry → PlainSafe p → ShowsBrokerTiers h broker_tiers c → order.command ≡ Join → GoesOn h x g → NodeRestarts x y n
    → h' ≡ put_node h order.broker.0 y → slice_get c.desk a ≡ Some (Rebuilds rebuild) → rebuild.epoch ≡ unwrap_or (joined g.role) 0 → rebuild.wanted ≡ n
    → IsTurned c p q (left_with c a (tier_views_of h'.nodes broker_tiers) Free)
rebuild_ends brokers h h' p q x y g n order entry broker_tiers c a rebuild t safe shows command on m same actor_state epoch wanted =
    let at = broker_at h p order.broker.0 x t.before t.node in
    let k = of_turn p q x g (Rebuilt n) order entry t.is at t.recorded command (t.event) in
    let j = still_joined h p x g order entry.actor.0 safe t.before.registry at t.recorded command on in
    restarts brokers h h' p q x y g (Rebuilt n) order entry broker_tiers c a n rebuild t shows (restarted p q order.broker.0 (broker_of x) k.0 (recorded_of order g) entry.actor.0 k.1 n k.2) m same actor_state
    (ap followed j.2 ∙ ap (λ (e : ℕ). Some e) (sym (epoch ∙ ap (λ (r : Role). unwrap_or (joined r) 0) j.1))) wanted

-- and one whose disk fails
pub rebuild_fails : (brokers : ℕ) (h h' : SeenPartition) (p q : Plain) (x y : Node) (g : StartSnapshot) (n : ℕ) (order : Order) (entry : JournalEntry) (broker_tiers : List BrokerTierModel) (c : Scene) (a : ℕ) (rebuild : Rebuild)
    → TurnStands brokers h h' p q x (Some g) (Answers (DiskFaultAt n)) order entry → PlainSafe p → ShowsBrokerTiers h broker_tiers c → order.command ≡ Join → GoesOn h x g → NodeRestarts x y n
    → h' ≡ put_node h order.broker.0 y → slice_get c.desk a ≡ Some (Rebuilds rebuild) → rebuild.epoch ≡ unwrap_or (joined g.role) 0 → rebuild.wanted ≡ n
    → IsTurned c p q (left_with c a (tier_views_of h'.nodes broker_tiers) Free)
rebuild_fails brokers h h' p q x y g n order entry broker_tiers c a rebuild t safe shows command on m same actor_state epoch wanted =
    let at = broker_at h p order.broker.0 x t.before t.node in
    let k = of_turn p q x g (DiskFaultAt n) order entry t.is at t.recorded command (t.event) in
    let j = still_joined h p x g order entry.actor.0 safe t.before.registry at t.recorded command on in
    restarts brokers h h' p q x y g (DiskFaultAt n) order entry broker_tiers c a n rebuild t shows (torn_down p q order.broker.0 (broker_of x) k.0 (recorded_of order g) entry.actor.0 k.1 n k.2) m same actor_state
    (ap followed j.2 ∙ ap (λ (e : ℕ). Some e) (sym (epoch ∙ ap (λ (r : Role). unwrap_or (joined r) 0) j.1))) wanted
