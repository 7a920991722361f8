-- The rows of a follower, which joins a leader's log and copies from it, are the plain log's.
use Rattle.std.proofs.Common.{◌≡◌, ◌≢◌, inl, inr, ◌∙◌, sym, ap, subst, refl, ℕ, zero, suc, ◌≤◌, nat_lt, List, [], ◌∷◌, ◌++◌, slice_get, slice_set, Some, None, Option, Bool, true, false, ◌&&◌, min, arith, append_assoc, ◌<◌}
use Rattle.std.specs.Prelude.{map, option_map}
use Rattle.std.specs.Option.{option_and_then}
use Rattle.std.proofs.lemmas.Bool.{cases_lt}
use mathlib.Core.List.{IsPrefix}
use Rattle.log_terms.specs.Batch.{last_of}
use Rattle.log_terms.specs.Log.{end_from, end_of, up_to, from_offset, EndsAt}
use Rattle.log_terms.proofs.Lists.{get-set}
use Rattle.log_terms.specs.Line.{line_of}
use Rattle.epoch_line.specs.Line.{cut_end}
use Rattle.log_terms.proofs.Logs.{end_append, ends_below, up_to_end, up_to_prefix, prefix_end}
use Rattle.laws_partition.proofs.Lines.{cut_line}
use Rattle.registry.specs.declared.registry.Replica.{Replica}
use Rattle.registry.specs.declared.registry.Registry.{Registry}
use Rattle.registry.specs.Calls.{when}
use Rattle.plain_log.specs.declared.answer.Answer.{Answer}
use Rattle.plain_log.specs.declared.answer.Answer.TheVariants.{Down, NotFollower, StaleEpoch, NoLeader, Cut, DiskFault, DiskFaultAt, NotJoined, Level, Moved}
use Rattle.plain_log.specs.declared.command.Command.TheVariants.{Join, Follow}
use Rattle.plain_log.specs.declared.state.State.{State}
use Rattle.plain_log.specs.declared.state.Broker.{Broker}
use Rattle.plain_log.specs.declared.state.Role.{Role}
use Rattle.plain_log.specs.declared.state.Role.TheVariants.{Idle, Leads, Follows, Joined}
use Rattle.plain_log.specs.State.{path_of, put_broker, breaks, stopped as stopped_broker, followed, joined, leads_in, facts_of, leader_facts}
use Rattle.plain_log.specs.Ends.{common}
use Rattle.plain_log.specs.RowsOfFollowers.{cut_to, leader_end}
use Rattle.plain_log.specs.Rows.{refusal_at}
use Rattle.plain_log.specs.Refusals.{down, not_follower, not_joined, stale, no_leader, level, first_of}
use Rattle.plain_log.specs.Step.{begins}
use Rattle.plain_log.specs.Safe.{RoleSafe}
use Rattle.plain_log.proofs.AppendRow.{leads_in_is}
use Rattle.laws_partition.specs.declared.start_snapshot.StartSnapshot.{StartSnapshot}
use Rattle.laws_partition.specs.declared.start_snapshot.Turned.TheVariants.{Answers, Begins}
use Rattle.laws_partition.specs.Seen.{Back, Node, SeenPartition}
use Rattle.laws_partition.specs.Partition.{broker_of, put_node, back_of, torn, the_leader}
use Rattle.laws_partition.specs.Central.{PartitionMatches, WereElected, RunStands, RebuildMatches}
use Rattle.laws_partition.specs.Sound.{NodeSound}
use Rattle.laws_partition.specs.RowsOfFollowers.{IsCurrent, IsMeet, cut_node, cut_back, JoinRow, FollowRow}
use Rattle.laws_partition.proofs.Meets.{meet_common}
use Rattle.laws_partition.proofs.BoolTests.{some_of, and_true, when_true, eq_same, le_true, le_false, lt_true, lt_false}
use Rattle.laws_partition.proofs.Refusing.{refuses, does, fails, skips, stale_some, stale_none}
use Rattle.laws_partition.proofs.NodeLaw.{joined_is, none_back, node_cut, torn_below, torn_above, node_torn}
use Rattle.laws_partition.proofs.Standing.{Standing, Allowed, Puts, silent, put, broker_at, wider_self, keeps_self, followed_below}
use Rattle.laws_partition.proofs.OwnRows.{filter_taken}

-- the registry's leader

get_map : {A B : Type 0} (f : A → B) (xs : List A) (i : ℕ) → slice_get (map f xs) i ≡ option_map f (slice_get xs i)
get_map f [] i = refl
get_map f (x ∷ xs) zero = refl
get_map f (x ∷ xs) (suc i) = get_map f xs i

-- the nodes' leader is the plain log's
pub leader_as : (h : SeenPartition) (p : State) → PartitionMatches h p → leader_facts p ≡ option_map (λ (y : Node). facts_of h.registry.leader.0 (broker_of y)) (slice_get h.nodes h.registry.leader.0)
leader_as h p st =
    ap (λ (r : Registry). option_map (facts_of r.leader.0) (slice_get p.brokers r.leader.0)) st.registry
    ∙ (ap (λ (bs : List Broker). option_map (facts_of h.registry.leader.0) (slice_get bs h.registry.leader.0)) st.brokers
    ∙ (ap (λ (o : Option Broker). option_map (facts_of h.registry.leader.0) o) (get_map broker_of h.nodes h.registry.leader.0)
    ∙ go (slice_get h.nodes h.registry.leader.0)))
  where
    go : (o : Option Node) → option_map (facts_of h.registry.leader.0) (option_map broker_of o) ≡ option_map (λ (y : Node). facts_of h.registry.leader.0 (broker_of y)) o
    go None = refl
    go (Some y) = refl

-- what there is to the leader
pub record IsLeading (h : SeenPartition) (p : State) (y : Node) : Type 0 where
  pub at : slice_get h.nodes h.registry.leader.0 ≡ Some y
  pub up : y.up ≡ true
  pub leads : y.role ≡ Leads h.registry.epoch
  pub path : path_of p.paths p.registry.epoch ≡ Some y.log.batches
  pub is : leader_facts p ≡ Some (facts_of h.registry.leader.0 (broker_of y))

pub leading : (h : SeenPartition) (p : State) (b : ℕ) (x : Node) (s : Replica) (y : Node) → Standing h p b x s → the_leader h ≡ Some y → IsLeading h p y
leading h p b x s y st e = go (slice_get h.nodes h.registry.leader.0) refl
  where
    both_of : (a c : Bool) (z : Node) → when (a && c) z ≡ Some y → (c ≡ true) × (z ≡ y) × (a ≡ true)
    both_of true true z w = (refl, cc, refl)
    both_of true false z w = absurd cc
    both_of false c z w = absurd cc

    role_of : (z : Node) → slice_get h.nodes h.registry.leader.0 ≡ Some z → z.role ≡ Leads h.registry.epoch → path_of p.paths p.registry.epoch ≡ Some z.log.batches
    role_of z at leads =
        let epoch : h.registry.epoch ≡ p.registry.epoch = ap (λ (r : Registry). r.epoch) (sym st.partition_state.registry) in
        let safe = (st.safe.brokers h.registry.leader.0 (broker_of z) (broker_at h p h.registry.leader.0 z st.partition_state at)).role in
        (subst (λ (r : Role). RoleSafe p.paths p.registry.epoch r z.log.batches) (leads ∙ ap Leads epoch) safe).1

    go : (o : Option Node) → slice_get h.nodes h.registry.leader.0 ≡ o → IsLeading h p y
    go None is = absurd (let no : ◌≡◌ {A = Option Node} None (Some y) = ap (λ (o : Option Node). option_and_then (λ (y : Node). when (y.up && leads_in h.registry.epoch y.role) y) o) (sym is) ∙ e in cc)
    go (Some z) is =
        let w : when (z.up && leads_in h.registry.epoch z.role) z ≡ Some y = ap (λ (o : Option Node). option_and_then (λ (y : Node). when (y.up && leads_in h.registry.epoch y.role) y) o) (sym is) ∙ e in
        let k = both_of z.up (leads_in h.registry.epoch z.role) z w in
        let at : slice_get h.nodes h.registry.leader.0 ≡ Some y = is ∙ ap (λ (n : Node). Some n) k.1 in
        let up : y.up ≡ true = ap (λ (n : Node). n.up) (sym k.1) ∙ k.2 in
        let role : y.role ≡ Leads h.registry.epoch = ap (λ (n : Node). n.role) (sym k.1) ∙ leads_in_is h.registry.epoch z.role k.0 in
        record {
          at = at;
          up = up;
          leads = role;
          path = role_of y at role;
          is = leader_as h p st.partition_state ∙ ap (option_map (λ (n : Node). facts_of h.registry.leader.0 (broker_of n))) at;
        }

leader_none : (h : SeenPartition) (p : State) → PartitionMatches h p → the_leader h ≡ None → no_leader p.registry (leader_facts p) ≡ Some NoLeader
leader_none h p st none = go (slice_get h.nodes h.registry.leader.0) refl
  where
    off : (t : Bool) (y : Node) → when t y ≡ None → t ≡ false
    off true y e = absurd cc
    off false y e = refl

    go : (o : Option Node) → slice_get h.nodes h.registry.leader.0 ≡ o → no_leader p.registry (leader_facts p) ≡ Some NoLeader
    go None is = rw (leader_as h p st, is) refl
    go (Some y) is =
        let gone : when (y.up && leads_in h.registry.epoch y.role) y ≡ None = ap (λ (o : Option Node). option_and_then (λ (y : Node). when (y.up && leads_in h.registry.epoch y.role) y) o) (sym is) ∙ none in
        let test : (y.up && leads_in p.registry.epoch y.role) ≡ false = ap (λ (r : Registry). y.up && leads_in r.epoch y.role) st.registry ∙ off (y.up && leads_in h.registry.epoch y.role) y gone in
        rw (leader_as h p st, is, test) refl

leader_some : (h : SeenPartition) (p : State) (y : Node) → PartitionMatches h p → IsLeading h p y → no_leader p.registry (leader_facts p) ≡ None
leader_some h p y st l =
    let now : leads_in p.registry.epoch y.role ≡ true = rw l.leads (eq_same h.registry.epoch p.registry.epoch (ap (λ (r : Registry). r.epoch) (sym st.registry))) in
    rw (l.is, l.up, now) refl

pub epoch_same : (h : SeenPartition) (p : State) (n : ℕ) → PartitionMatches h p → n ≡ h.registry.epoch → n ≡ p.registry.epoch
epoch_same h p n st is = is ∙ ap (λ (r : Registry). r.epoch) (sym st.registry)

-- an epoch that a follower has and that isn't stale is the registry's
pub record IsNow (h : SeenPartition) (p : State) (b e : ℕ) : Type 0 where
  pub plain : e ≡ p.registry.epoch
  pub held : e ≡ h.registry.epoch
  pub other : h.registry.leader.0 ≢ b

pub now : (h : SeenPartition) (p : State) (b : ℕ) (x : Node) (s : Replica) (e : ℕ) → Standing h p b x s → followed x.role ≡ Some e → h.registry.epoch ≤ e → IsNow h p b e
now h p b x s e st is le =
    let reg = ap (λ (r : Registry). r.epoch) st.partition_state.registry in
    let low = followed_below p.paths p.registry.epoch x.role x.log.batches e (st.safe.brokers b (broker_of x) (broker_at h p b x st.partition_state st.at)).role is in
    let same : e ≡ h.registry.epoch = omega (arith, low, le, reg) in
    record {
      plain = same ∙ sym reg;
      held = same;
      other = st.lines.followers b x st.at (is ∙ ap (λ (n : ℕ). Some n) same);
    }

current_of : (h : SeenPartition) (o : Option ℕ) → IsCurrent h o → (e : ℕ) × (o ≡ Some e) × (h.registry.epoch ≤ e)
current_of h o w = some_of _ o w

-- join

-- where a follower's log meets its leader's, the plain log's do
cut_is : (h : SeenPartition) (p : State) (b : ℕ) (x : Node) (s : Replica) (y : Node) (m : ℕ) → Standing h p b x s → IsLeading h p y → IsMeet x y m
    → up_to m x.log.batches ≡ common x.log.batches y.log.batches
cut_is h p b x s y m st l w =
    let mine = (st.lines.each b x st.at).sound.log in
    let theirs = (st.lines.each h.registry.leader.0 y l.at).sound.log in
    (meet_common p.paths x.log.line y.log.line x.log.batches y.log.batches m (λ e log is. (st.safe.paths e log is).log_safe.consecutive)
    (st.safe.brokers b (broker_of x) (broker_at h p b x st.partition_state st.at)).log (st.safe.brokers h.registry.leader.0 (broker_of y) (broker_at h p h.registry.leader.0 y st.partition_state l.at)).log
    (record { mine_for = mine.line_is; mine_rises = mine.rises; theirs_for = theirs.line_is; theirs_rises = theirs.rises }) w).1

-- that is an end of the follower's log
pub meet_ends : (h : SeenPartition) (p : State) (b : ℕ) (x : Node) (s : Replica) (y : Node) (m : ℕ) → Standing h p b x s → the_leader h ≡ Some y → IsMeet x y m → EndsAt m x.log.batches
meet_ends h p b x s y m st e w =
    let l = leading h p b x s y st e in
    let mine = (st.lines.each b x st.at).sound.log in
    let theirs = (st.lines.each h.registry.leader.0 y l.at).sound.log in
    let k = meet_common p.paths x.log.line y.log.line x.log.batches y.log.batches m (λ e log is. (st.safe.paths e log is).log_safe.consecutive)
    (st.safe.brokers b (broker_of x) (broker_at h p b x st.partition_state st.at)).log (st.safe.brokers h.registry.leader.0 (broker_of y) (broker_at h p h.registry.leader.0 y st.partition_state l.at)).log
    (record { mine_for = mine.line_is; mine_rises = mine.rises; theirs_for = theirs.line_is; theirs_rises = theirs.rises }) w in
    (up_to m x.log.batches, up_to_prefix m x.log.batches, ap end_of k.1 ∙ sym k.0)

-- a follower's log that is cut to where it meets its leader's
pub record Cuts (h : SeenPartition) (p : State) (b : ℕ) (x : Node) (e m n : ℕ) : Type 0 where
  pub log : List (List ℕ)
  pub is : log ≡ up_to m x.log.batches
  pub other : h.registry.leader.0 ≢ b
  pub to : cut_to p (broker_of x) n ≡ Some (record (broker_of x) { role = Joined e; log = log; flushed_end = n; known_high_watermark = min x.known_high_watermark n })
  pub free : refusal_at p b (broker_of x) None Join ≡ None

-- a join isn't refused
may_join : (h : SeenPartition) (p : State) (b : ℕ) (x y : Node) (e : ℕ) → PartitionMatches h p → IsLeading h p y → x.up ≡ true → followed x.role ≡ Some e → h.registry.epoch ≤ e
    → refusal_at p b (broker_of x) None Join ≡ None
may_join h p b x y e st l up is le =
    let f = facts_of b (broker_of x) in
    let r = p.registry in
    skips (down f) (not_follower f ∷ stale r (followed x.role) ∷ no_leader r (leader_facts p) ∷ []) None (rw up refl)
    (skips (not_follower f) (stale r (followed x.role) ∷ no_leader r (leader_facts p) ∷ []) None (rw is refl)
    (skips (stale r (followed x.role)) (no_leader r (leader_facts p) ∷ []) None (stale_none h p (followed x.role) st (rw is le))
    (skips (no_leader r (leader_facts p)) [] None (leader_some h p y st l) refl)))

cuts : (h : SeenPartition) (p : State) (b : ℕ) (x : Node) (s : Replica) (y : Node) (e m n : ℕ) → Standing h p b x s → IsLeading h p y → x.up ≡ true
    → followed x.role ≡ Some e → h.registry.epoch ≤ e → IsMeet x y m → n ≡ end_of (up_to m x.log.batches) → Cuts h p b x e m n
cuts h p b x s y e m n st l up is le w n_is =
    let k = now h p b x s e st is le in
    let cut = cut_is h p b x s y m st l w in
    let bx = broker_of x in
    let path : path_of p.paths e ≡ Some y.log.batches = ap (path_of p.paths) k.plain ∙ l.path in
    let z : Broker = record bx { role = Joined e; log = common x.log.batches y.log.batches; flushed_end = n; known_high_watermark = min x.known_high_watermark n } in
    record {
      log = common x.log.batches y.log.batches;
      is = sym cut;
      other = k.other;
      to = rw (is, path) (when_true _ z (eq_same _ _ (n_is ∙ ap end_of cut)));
      free = may_join h p b x y e st.partition_state l up is le;
    }

pub cut_puts : (h : SeenPartition) (p : State) (b : ℕ) (x : Node) (s : Replica) (e m n : ℕ) → Standing h p b x s → x.up ≡ true → (k : Cuts h p b x e m n) → n ≡ end_of (up_to m x.log.batches)
    → Puts h p (put_broker p b (record (broker_of x) { role = Joined e; log = k.log; flushed_end = n; known_high_watermark = min x.known_high_watermark n })) b x (cut_node x e m)
cut_puts h p b x s e m n st up k n_is =
    let bx = broker_of x in
    let line = (st.lines.each b x st.at) in
    let node = node_cut x e m line.sound up in
    record {
      registry = refl;
      brokers = ap (λ (log : List (List ℕ)). slice_set p.brokers b (record bx { role = Joined e; log = log; flushed_end = n; known_high_watermark = min x.known_high_watermark n })) k.is
          ∙ ap (λ (k : ℕ). slice_set p.brokers b (record bx { role = Joined e; log = up_to m x.log.batches; flushed_end = k; known_high_watermark = min x.known_high_watermark k })) n_is;
      actors = refl;
      paths = wider_self p.paths;
      broken = keeps_self p.broken;
      keys = λ other has. has;
      sound = node.0;
      paths_are = λ safe. filter_taken p.paths p.broken x.log.line (end_of (up_to m x.log.batches)) line.paths_are;
      saved_are = λ safe. filter_taken p.paths p.broken x.log.line (end_of (up_to m x.log.batches)) line.paths_are;
      back_are = λ safe back b. absurd (none_back x back line.sound up b);
      joined = λ f j. node.1;
      leader = λ it. absurd (k.other it);
      followers = λ f. k.other;
      steady = λ it. absurd (k.other it);
    }

join_cut : (h : SeenPartition) (p : State) (b : ℕ) (x : Node) (s : Replica) (e m n : ℕ) (h' : SeenPartition) → Standing h p b x s → x.up ≡ true
    → Cuts h p b x e m n → n ≡ end_of (up_to m x.log.batches) → h' ≡ put_node h b (cut_node x e m) → Allowed p b x s None Join (Cut n) h'
join_cut h p b x s e m n h' st up k n_is same =
    let z : Broker = record (broker_of x) { role = Joined e; log = k.log; flushed_end = n; known_high_watermark = min x.known_high_watermark n } in
    put h p (put_broker p b z) b x (cut_node x e m) s None Join (Cut n) h' st
    (does p b (broker_of x) s None Join (Cut n) (put_broker p b z) k.free (ap (option_map (put_broker p b)) k.to)) (cut_puts h p b x s e m n st up k n_is) same

-- a cut that failed
record TearsTo (p : State) (x y : Node) (n : ℕ) : Type 0 where
  is : broker_of y ≡ record (stopped_broker (record (broker_of x) { flushed_end = min x.flushed_end n })) { loose = true }
  lines : WereElected p.paths p.broken y.log.line
  saved : WereElected p.paths p.broken y.saved
  back : (back : Back) → y.loose ≡ Some back → WereElected p.paths p.broken back.1
  role : y.role ≡ Idle

tears_to : (p : State) (x : Node) (back : Back) → WereElected p.paths p.broken x.log.line → WereElected p.paths p.broken x.saved → WereElected p.paths p.broken back.1
    → TearsTo p x (torn x back) back.0
tears_to p x back lines saved cut = elim (cases_lt back.0 x.flushed_end) [
  | inl less ↦
      let low : min x.flushed_end back.0 ≡ back.0 = omega (arith, less) in
      subst (λ (y : Node). TearsTo p x y back.0) (sym (torn_below x back (lt_true back.0 x.flushed_end less))) (record {
        is = ap (λ (k : ℕ). record (stopped_broker (record (broker_of x) { flushed_end = k })) { loose = true }) (sym low);
        lines = lines;
        saved = cut;
        back = λ other b. (let one : back_of x ≡ other = cc (b) in subst (λ (k : Back). WereElected p.paths p.broken k.1) one saved);
        role = refl;
      })
  | inr more ↦
      let high : min x.flushed_end back.0 ≡ x.flushed_end = omega (arith, more) in
      subst (λ (y : Node). TearsTo p x y back.0) (sym (torn_above x back (lt_false back.0 x.flushed_end more))) (record {
        is = ap (λ (k : ℕ). record (stopped_broker (record (broker_of x) { flushed_end = k })) { loose = true }) (sym high);
        lines = lines;
        saved = saved;
        back = λ other b. (let one : back ≡ other = cc (b) in subst (λ (k : Back). WereElected p.paths p.broken k.1) one cut);
        role = refl;
      })
]

join_torn : (h : SeenPartition) (p : State) (b : ℕ) (x : Node) (s : Replica) (e m n : ℕ) (h' : SeenPartition) → Standing h p b x s
    → Cuts h p b x e m n → n ≡ end_of (up_to m x.log.batches) → h' ≡ put_node h b (torn x (cut_back x m)) → Allowed p b x s None Join (DiskFaultAt n) h'
join_torn h p b x s e m n h' st k n_is same =
    let bx = broker_of x in
    let l = st.lines.each b x st.at in
    let y = torn x (cut_back x m) in
    let t = tears_to p x (cut_back x m) l.paths_are l.saved_are (filter_taken p.paths p.broken x.log.line (end_of (up_to m x.log.batches)) l.paths_are) in
    let q = breaks p b (record bx { flushed_end = min x.flushed_end n }) in
    put h p q b x y s None Join (DiskFaultAt n) h' st (does p b bx s None Join (DiskFaultAt n) q k.free (ap (option_map (λ (z : Broker). q)) k.to)) (record {
      registry = refl;
      brokers = ap (λ (m : ℕ). slice_set p.brokers b (record (stopped_broker (record bx { flushed_end = min x.flushed_end m })) { loose = true })) n_is
          ∙ ap (λ (z : Broker). slice_set p.brokers b z) (sym t.is);
      actors = refl;
      paths = wider_self p.paths;
      broken = keeps_self p.broken;
      keys = λ other has. has;
      sound = node_torn x m l.sound;
      paths_are = λ safe. t.lines;
      saved_are = λ safe. t.saved;
      back_are = λ safe. t.back;
      joined = λ f j. absurd (let no : Idle ≡ Joined f = sym t.role ∙ j in cc);
      leader = λ it. absurd (k.other it);
      followers = λ f. k.other;
      steady = λ it. absurd (k.other it);
    }) same

pub join_allowed : (h : SeenPartition) (p : State) (b : ℕ) (x : Node) (s : Replica) (answer : Answer) (h' : SeenPartition) → Standing h p b x s → JoinRow h b x (Answers answer) h' → Allowed p b x s None Join answer h'
join_allowed h p b x s Down h' st w = silent h p b x s None Join Down h' st (rw w.0 refl) w.1
join_allowed h p b x s NotFollower h' st w = silent h p b x s None Join NotFollower h' st (rw (w.0, w.1) refl) w.2
join_allowed h p b x s (StaleEpoch n) h' st w =
    let f = facts_of b (broker_of x) in
    let e = some_of _ (followed x.role) w.1 in
    let k = stale_some h p (followed x.role) n st.partition_state w.1 w.2 in
    silent h p b x s None Join (StaleEpoch n) h' st
    (refuses p b (broker_of x) s None Join (StaleEpoch n) k.0
    (skips (down f) (not_follower f ∷ stale p.registry (followed x.role) ∷ no_leader p.registry (leader_facts p) ∷ []) (Some k.0) (rw w.0 refl)
    (skips (not_follower f) (stale p.registry (followed x.role) ∷ no_leader p.registry (leader_facts p) ∷ []) (Some k.0) (rw e.1 refl)
    (fails (stale p.registry (followed x.role)) (no_leader p.registry (leader_facts p) ∷ []) k.0 k.1))) k.2) w.3
join_allowed h p b x s NoLeader h' st w =
    let f = facts_of b (broker_of x) in
    let o = current_of h (followed x.role) w.1 in
    silent h p b x s None Join NoLeader h' st
    (refuses p b (broker_of x) s None Join NoLeader NoLeader
    (skips (down f) (not_follower f ∷ stale p.registry (followed x.role) ∷ no_leader p.registry (leader_facts p) ∷ []) (Some NoLeader) (rw w.0 refl)
    (skips (not_follower f) (stale p.registry (followed x.role) ∷ no_leader p.registry (leader_facts p) ∷ []) (Some NoLeader) (rw o.1 refl)
    (skips (stale p.registry (followed x.role)) (no_leader p.registry (leader_facts p) ∷ []) (Some NoLeader) (stale_none h p (followed x.role) st.partition_state w.1)
    (fails (no_leader p.registry (leader_facts p)) [] NoLeader (leader_none h p st.partition_state w.2))))) refl) w.3
join_allowed h p b x s (Cut n) h' st w =
    let y = some_of _ (the_leader h) w.2 in
    let o = current_of h (followed x.role) w.1 in
    let k = y.2 in
    let one : o.0 ≡ k.0 = cc (o.1, k.2) in
    let cut = cuts h p b x s y.0 k.0 k.1 n st (leading h p b x s y.0 st y.1) w.0 k.2 (omega (arith, o.2, one)) k.3 k.4 in
    join_cut h p b x s k.0 k.1 n h' st w.0 cut k.4 k.6
join_allowed h p b x s (DiskFaultAt n) h' st w =
    let y = some_of _ (the_leader h) w.2 in
    let o = current_of h (followed x.role) w.1 in
    let k = y.2 in
    let one : o.0 ≡ k.0 = cc (o.1, k.2) in
    let cut = cuts h p b x s y.0 k.0 k.1 n st (leading h p b x s y.0 st y.1) w.0 k.2 (omega (arith, o.2, one)) k.3 k.4 in
    join_torn h p b x s k.0 k.1 n h' st cut k.4 k.5
join_allowed h p b x s other h' st w = elim w [ ]

-- a join that continues after the cut
pub record JoinStarts (h : SeenPartition) (p : State) (b : ℕ) (x : Node) (s : Replica) (g : StartSnapshot) (h' : SeenPartition) : Type 0 where
  pub broker : Broker
  pub node : Node
  pub free : refusal_at p b (broker_of x) None Join ≡ None
  pub is : begins p (broker_of x) Join (Some g.end) ≡ Some broker
  pub stops : g.stops ≡ broker.stops
  pub role : g.role ≡ broker.role
  pub end : g.end ≡ end_of broker.log
  pub start : g.start ≡ p.registry.start
  pub puts : Puts h p (put_broker p b broker) b x node
  pub after : h' ≡ put_node h b node
  pub rebuild : RebuildMatches (put_broker p b broker) g

pub join_starts : (h : SeenPartition) (p : State) (b : ℕ) (x : Node) (s : Replica) (g : StartSnapshot) (h' : SeenPartition) → Standing h p b x s → JoinRow h b x (Begins g) h' → JoinStarts h p b x s g h'
join_starts h p b x s g h' st w =
    let y = some_of _ (the_leader h) w.2 in
    let o = current_of h (followed x.role) w.1 in
    let k = y.2 in
    let wants = k.4 in
    let one : o.0 ≡ k.0 = cc (o.1, k.2) in
    let le : h.registry.epoch ≤ k.0 = omega (arith, o.2, one) in
    let l = leading h p b x s y.0 st y.1 in
    let cut = cuts h p b x s y.0 k.0 k.1 g.end st l w.0 k.2 le k.3 wants.end in
    let now_is = now h p b x s k.0 st k.2 le in
    let their = (st.lines.each h.registry.leader.0 y.0 l.at).sound in
    let z : Broker = record (broker_of x) { role = Joined k.0; log = cut.log; flushed_end = g.end; known_high_watermark = min x.known_high_watermark g.end } in
    record {
      broker = z;
      node = cut_node x k.0 k.1;
      free = cut.free;
      is = cut.to;
      stops = wants.stops;
      role = wants.role;
      end = wants.end ∙ ap end_of (sym cut.is);
      start = wants.start ∙ ap (λ (r : Registry). r.start) (sym st.partition_state.registry);
      puts = cut_puts h p b x s k.0 k.1 g.end st w.0 cut wants.end;
      after = k.5;
      rebuild = record {
        epoch = k.0;
        role = wants.role;
        path = y.0.log.batches;
        path_is = ap (path_of p.paths) now_is.plain ∙ l.path;
        ends = subst (λ (n : ℕ). EndsAt n y.0.log.batches) (sym wants.wanted) their.begins;
        line = wants.line ∙ line_there y.0 their g.wanted (subst (λ (n : ℕ). EndsAt n y.0.log.batches) (sym wants.wanted) their.begins);
        above = wants.above;
        leader = λ same v at. flushed_end_of y.0 l their wants.wanted z v (
            ap (λ (n : ℕ). slice_get (slice_set p.brokers b z) n) (ap (λ (r : Registry). r.leader.0) (sym st.partition_state.registry)) ∙ at
            ) now_is.other;
      };
    }
  where
    line_there : (y : Node) → NodeSound y → (n : ℕ) → EndsAt n y.log.batches → cut_end y.log.line n ≡ line_of (up_to n y.log.batches)
    line_there y their n ends =
        ap (cut_end y.log.line) (sym (up_to_end n y.log.batches their.log.consecutive ends))
        ∙ cut_line y.log.line (up_to n y.log.batches) y.log.batches their.log.consecutive their.log.line_is (up_to_prefix n y.log.batches)

    flushed_end_of : (y : Node) → IsLeading h p y → NodeSound y → g.wanted ≡ y.local → (z v : Broker) → slice_get (slice_set p.brokers b z) h.registry.leader.0 ≡ Some v → h.registry.leader.0 ≢ b → g.wanted ≤ v.flushed_end
    flushed_end_of y l their is z v at other = elim (get-set p.brokers b z h.registry.leader.0 v at) [
      | inl one ↦ absurd (other one.0)
      | inr rest ↦
          let same : broker_of y ≡ v = cc (broker_at h p h.registry.leader.0 y st.partition_state l.at, rest.1) in
          subst (λ (k : Broker). g.wanted ≤ k.flushed_end) same (omega (arith, is, their.within))
    ]

-- follow, first turn

pub joined_followed : (r : Role) (e : ℕ) → joined r ≡ Some e → followed r ≡ Some e
joined_followed Idle e is = absurd cc
joined_followed (Leads f) e is = absurd cc
joined_followed (Follows f) e is = absurd cc
joined_followed (Joined f) e is = is

-- a follower's log begins its leader's
begins_leader : (h : SeenPartition) (p : State) (b : ℕ) (x : Node) (s : Replica) (y : Node) (e : ℕ) → Standing h p b x s → IsLeading h p y → joined x.role ≡ Some e → h.registry.epoch ≤ e
    → IsPrefix x.log.batches y.log.batches
begins_leader h p b x s y e st l is le =
    let k = now h p b x s e st (joined_followed x.role e is) le in
    let safe = (st.safe.brokers b (broker_of x) (broker_at h p b x st.partition_state st.at)).role in
    let has = (subst (λ (r : Role). RoleSafe p.paths p.registry.epoch r x.log.batches) (joined_is x.role e is) safe).1 in
    let same : has.0 ≡ y.log.batches = cc (has.1, ap (path_of p.paths) k.plain, l.path) in
    subst (λ (w : List (List ℕ)). IsPrefix x.log.batches w) same has.2

leader_ends : (h : SeenPartition) (p : State) (y : Node) → IsLeading h p y → leader_end p ≡ end_of y.log.batches
leader_ends h p y l = rw (l.is, l.up) refl

-- a follow isn't refused before the two logs are compared
follow_tests : (h : SeenPartition) (p : State) (b : ℕ) (x y : Node) (limit : ℕ) (why : Option Answer) → PartitionMatches h p → IsLeading h p y → x.up ≡ true → IsCurrent h (joined x.role)
    → level (leader_facts p) (facts_of b (broker_of x)) ≡ why → refusal_at p b (broker_of x) None (Follow limit) ≡ why
follow_tests h p b x y limit why st l up w is =
    let f = facts_of b (broker_of x) in
    let r = p.registry in
    let o = current_of h (joined x.role) w in
    skips (down f) (not_joined (joined x.role) ∷ stale r (joined x.role) ∷ no_leader r (leader_facts p) ∷ level (leader_facts p) f ∷ []) why (rw up refl)
    (skips (not_joined (joined x.role)) (stale r (joined x.role) ∷ no_leader r (leader_facts p) ∷ level (leader_facts p) f ∷ []) why (rw o.1 refl)
    (skips (stale r (joined x.role)) (no_leader r (leader_facts p) ∷ level (leader_facts p) f ∷ []) why (stale_none h p (joined x.role) st w)
    (skips (no_leader r (leader_facts p)) (level (leader_facts p) f ∷ []) why (leader_some h p y st l) (last (level (leader_facts p) f) is))))
  where
    last : (test : Option Answer) → test ≡ why → first_of (test ∷ []) ≡ why
    last None is = is
    last (Some reason) is = is

-- the follower's log goes as far as the leader's, or it doesn't
level_some : (h : SeenPartition) (p : State) (b : ℕ) (x y : Node) → IsLeading h p y → x.up ≡ true → end_of y.log.batches ≤ end_of x.log.batches → level (leader_facts p) (facts_of b (broker_of x)) ≡ Some Level
level_some h p b x y l up le = rw (l.is, l.up, up, le_true (end_of y.log.batches) (end_of x.log.batches) le) refl

level_none : (h : SeenPartition) (p : State) (b : ℕ) (x y : Node) → IsLeading h p y → x.up ≡ true → end_of x.log.batches < end_of y.log.batches → level (leader_facts p) (facts_of b (broker_of x)) ≡ None
level_none h p b x y l up lt = rw (l.is, l.up, up, le_false (end_of y.log.batches) (end_of x.log.batches) lt) refl

pub follow_allowed : (h : SeenPartition) (p : State) (b : ℕ) (x : Node) (s : Replica) (limit : ℕ) (answer : Answer) (h' : SeenPartition) → Standing h p b x s → FollowRow h b x limit (Answers answer) h'
    → Allowed p b x s None (Follow limit) answer h'
follow_allowed h p b x s limit Down h' st w = silent h p b x s None (Follow limit) Down h' st (rw w.0 refl) w.1
follow_allowed h p b x s limit NotJoined h' st w = silent h p b x s None (Follow limit) NotJoined h' st (rw (w.0, w.1) refl) w.2
follow_allowed h p b x s limit (StaleEpoch n) h' st w =
    let f = facts_of b (broker_of x) in
    let e = some_of _ (joined x.role) w.1 in
    let k = stale_some h p (joined x.role) n st.partition_state w.1 w.2 in
    let rest = no_leader p.registry (leader_facts p) ∷ level (leader_facts p) f ∷ [] in
    silent h p b x s None (Follow limit) (StaleEpoch n) h' st
    (refuses p b (broker_of x) s None (Follow limit) (StaleEpoch n) k.0
    (skips (down f) (not_joined (joined x.role) ∷ stale p.registry (joined x.role) ∷ rest) (Some k.0) (rw w.0 refl)
    (skips (not_joined (joined x.role)) (stale p.registry (joined x.role) ∷ rest) (Some k.0) (rw e.1 refl) (fails (stale p.registry (joined x.role)) rest k.0 k.1))) k.2) w.3
follow_allowed h p b x s limit NoLeader h' st w =
    let f = facts_of b (broker_of x) in
    let o = current_of h (joined x.role) w.1 in
    let rest = level (leader_facts p) f ∷ [] in
    silent h p b x s None (Follow limit) NoLeader h' st
    (refuses p b (broker_of x) s None (Follow limit) NoLeader NoLeader
    (skips (down f) (not_joined (joined x.role) ∷ stale p.registry (joined x.role) ∷ no_leader p.registry (leader_facts p) ∷ rest) (Some NoLeader) (rw w.0 refl)
    (skips (not_joined (joined x.role)) (stale p.registry (joined x.role) ∷ no_leader p.registry (leader_facts p) ∷ rest) (Some NoLeader) (rw o.1 refl)
    (skips (stale p.registry (joined x.role)) (no_leader p.registry (leader_facts p) ∷ rest) (Some NoLeader) (stale_none h p (joined x.role) st.partition_state w.1)
    (fails (no_leader p.registry (leader_facts p)) rest NoLeader (leader_none h p st.partition_state w.2))))) refl) w.3
follow_allowed h p b x s limit Level h' st w =
    let y = some_of _ (the_leader h) w.2 in
    let l = leading h p b x s y.0 st y.1 in
    silent h p b x s None (Follow limit) Level h' st
    (refuses p b (broker_of x) s None (Follow limit) Level Level (follow_tests h p b x y.0 limit (Some Level) st.partition_state l w.0 w.1 (level_some h p b x y.0 l w.0 y.2)) refl) w.3
follow_allowed h p b x s limit (Moved n) h' st w =
    let y = some_of _ (the_leader h) w.2 in
    let l = leading h p b x s y.0 st y.1 in
    let ends = leader_ends h p y.0 l in
    let their = (st.lines.each h.registry.leader.0 y.0 l.at).sound in
    let high = ends_below y.0.local y.0.log.batches their.log.consecutive their.begins in
    silent h p b x s None (Follow limit) (Moved n) h' st
    (does p b (broker_of x) s None (Follow limit) (Moved n) p (follow_tests h p b x y.0 limit None st.partition_state l w.0 w.1 (level_none h p b x y.0 l w.0 y.2.0))
    (when_true _ p (and_true _ _ (lt_true (end_of x.log.batches) n (omega (arith, y.2.1, y.2.2))) (le_true n (leader_end p) (omega (arith, y.2.2, high, ends)))))) w.3
follow_allowed h p b x s limit DiskFault h' st w =
    let y = some_of _ (the_leader h) w.2 in
    let l = leading h p b x s y.0 st y.1 in
    silent h p b x s None (Follow limit) DiskFault h' st
    (does p b (broker_of x) s None (Follow limit) DiskFault p (follow_tests h p b x y.0 limit None st.partition_state l w.0 w.1 (level_none h p b x y.0 l w.0 y.2.0)) refl) w.3
follow_allowed h p b x s limit other h' st w = elim w [ ]

-- what a follow begins with
pub record Starts (h : SeenPartition) (p : State) (b : ℕ) (x : Node) (limit : ℕ) (g : StartSnapshot) (h' : SeenPartition) : Type 0 where
  pub same : h' ≡ h
  pub free : refusal_at p b (broker_of x) None (Follow limit) ≡ None
  pub stops : g.stops ≡ x.stops
  pub role : g.role ≡ x.role
  pub end : g.end ≡ end_of x.log.batches
  pub start : g.start ≡ p.registry.start
  pub run : RunStands p.paths limit g

-- a log is what it has up to an offset, and from there on
parts_at : (n : ℕ) (log : List (List ℕ)) → up_to n log ++ from_offset n log ≡ log
parts_at n [] = refl
parts_at n (x ∷ xs) = go (nat_lt (last_of x) n) refl (parts_at n xs)
  where
    go : (t : Bool) → nat_lt (last_of x) n ≡ t → up_to n xs ++ from_offset n xs ≡ xs → up_to n (x ∷ xs) ++ from_offset n (x ∷ xs) ≡ x ∷ xs
    go true t r = rw t (ap (λ (l : List (List ℕ)). x ∷ l) r)
    go false t r = rw t refl

pub follow_starts : (h : SeenPartition) (p : State) (b : ℕ) (x : Node) (s : Replica) (limit : ℕ) (g : StartSnapshot) (h' : SeenPartition) → Standing h p b x s → FollowRow h b x limit (Begins g) h' → Starts h p b x limit g h'
follow_starts h p b x s limit g h' st w =
    let y = some_of _ (the_leader h) w.2 in
    let l = leading h p b x s y.0 st y.1 in
    let o = current_of h (joined x.role) w.1 in
    let k = now h p b x s o.0 st (joined_followed x.role o.0 o.1) o.2 in
    let front = begins_leader h p b x s y.0 o.0 st l o.1 o.2 in
    let log = (st.lines.each h.registry.leader.0 y.0 l.at).sound.log in
    let takes = y.2.2 in
    let run = takes.run in
    let ends : EndsAt g.end y.0.log.batches = (x.log.batches, front, sym takes.end) in
    let at = up_to_end g.end y.0.log.batches log.consecutive ends in
    let more : IsPrefix (up_to g.end y.0.log.batches ++ g.batches) y.0.log.batches =
    (run.rest, append_assoc (up_to g.end y.0.log.batches) g.batches run.rest ∙ (ap (λ (w : List (List ℕ)). up_to g.end y.0.log.batches ++ w) (sym run.parts) ∙ parts_at g.end y.0.log.batches)) in
    let low = prefix_end (up_to g.end y.0.log.batches ++ g.batches) y.0.log.batches log.consecutive more in
    let last : end_of (up_to g.end y.0.log.batches ++ g.batches) ≡ end_from g.end g.batches = end_append 0 (up_to g.end y.0.log.batches) g.batches ∙ ap (λ (n : ℕ). end_from n g.batches) at in
    record {
      same = w.3;
      free = follow_tests h p b x y.0 limit None st.partition_state l w.0 w.1 (level_none h p b x y.0 l w.0 y.2.0);
      stops = takes.stops;
      role = takes.role;
      end = takes.end;
      start = takes.start ∙ ap (λ (r : Registry). r.start) (sym st.partition_state.registry);
      run = record {
        epoch = o.0;
        role = takes.role ∙ joined_is x.role o.0 o.1;
        path = y.0.log.batches;
        path_is = ap (path_of p.paths) k.plain ∙ l.path;
        front = up_to g.end y.0.log.batches;
        ends = at;
        begins = more;
        are = takes.are;
        within = run.within;
        epochs = run.epochs;
        small = omega (arith, low, last, log.small);
      };
    }
