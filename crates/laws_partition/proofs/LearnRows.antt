-- The rows of a broker that acknowledges, or learns of an election, are the plain log's.
use Rattle.std.proofs.Common.{◌≡◌, inl, inr, ◌∙◌, sym, ap, subst, refl, ℕ, ◌^◌, ◌<◌, ◌≤◌, ◌==◌, List, [], ◌∷◌, ◌++◌, slice_get, slice_set, Some, None, Option, Ok as Done, Err, Bool, true, false, not, ◌&&◌, min, arith}
use Rattle.std.specs.Prelude.{is_some, map, option_map, if◌then◌else◌}
use Rattle.std.specs.List.{AllByRecursion}
use Rattle.std.proofs.lemmas.Bool.{cases_lt}
use Rattle.std.proofs.lemmas.Bool.Decides.{nat_tests}
use Rattle.std.proofs.lemmas.List.Elements.{All-from_recursion, recursion_from_All}
use mathlib.Core.List.{IsPrefix}
use Rattle.log_terms.specs.Line.{line_of}
use Rattle.log_terms.specs.Log.{IsConsecutive, end_of, up_to, EndsAt}
use Rattle.log_terms.proofs.Lists.{prefix_self}
use Rattle.log_terms.proofs.Logs.{up_to_prefix, nested, ends_below}
use Rattle.epoch_line.specs.Line.{last_entry, last_epoch, assign}
use Rattle.registry.specs.declared.registry.Replica.{Replica}
use Rattle.registry.specs.declared.registry.Registry.{Registry}
use Rattle.registry.specs.declared.refusal.RegRefusal.TheVariants as Reg
use Rattle.registry.specs.Registry.{epoch_limit, with_ack}
use Rattle.registry.specs.Calls.{is_stale as is_behind, after_ack}
use Rattle.plain_log.specs.declared.answer.Answer.{Answer}
use Rattle.plain_log.specs.declared.answer.Answer.TheVariants.{OkAt, Down, Known, Follows, NeedsElection, DiskFault, Leads, NotJoined, StaleEpoch}
use Rattle.plain_log.specs.declared.command.Command.TheVariants.{Learn, Ack}
use Rattle.plain_log.specs.declared.state.State.{State}
use Rattle.plain_log.specs.declared.state.Path.{Path}
use Rattle.plain_log.specs.declared.state.Broker.{Broker}
use Rattle.plain_log.specs.declared.state.Role.{Role}
use Rattle.plain_log.specs.declared.state.Role.TheVariants.{Idle, Leads as LeadsIn, Follows as FollowsIn, Joined}
use Rattle.plain_log.specs.State.{path_of, has_path, is_in, put_broker, breaks, acking, epoch_in, knows}
use Rattle.plain_log.specs.RowsOfElections.{led as led_plain}
use Rattle.plain_log.specs.RowsOfReplicas.{acknowledged}
use Rattle.plain_log.specs.Rows.{row, refusal_at}
use Rattle.plain_log.specs.Safe.{HasOnPath, RoleSafe, PlainSafe}
use Rattle.plain_log.proofs.Options.{when_some, both, eq_of, not_true}
use Rattle.plain_log.proofs.Wider.{Wider}
use Rattle.plain_log.proofs.StepLaw.{row_keeps}
use Rattle.laws_partition.specs.Seen.{Back, Node, SeenPartition}
use Rattle.laws_partition.specs.Partition.{broker_of, put_node, broken}
use Rattle.laws_partition.specs.Central.{PartitionMatches, was_taken, WereElected, LinesStand}
use Rattle.laws_partition.specs.RowsOfElections.{IsKnown, IsNew, led, LearnRow, acked, AckRow}
use Rattle.laws_partition.proofs.Lines.{by_last, assign_line}
use Rattle.laws_partition.proofs.BoolTests.{some_of, and_true, not_false, when_true, eq_same, eq_differs}
use Rattle.laws_partition.proofs.NodeLaw.{none_back, node_told, node_follows, node_led, lead_back, node_broken}
use Rattle.laws_partition.proofs.RegistryLaw.{Moves, ack_moves}
use Rattle.laws_partition.proofs.Standing.{Standing, Allowed, LogsSafe, Keeps, silent, put, leaves, get_put, broker_at, map_set, wider_self, keeps_self, path_taken, broken_taken, by_taken, line_wide, log_taken, lines_put, lines_same, steady_set}
use Rattle.laws_partition.proofs.ElectionRows.{replica_is}
use Rattle.laws_partition.proofs.Refusing.{refuses, does}

-- ack

-- as much of an end of a path as a beginning of the path has is an end of that beginning
told_at : (m : ℕ) (log path : List (List ℕ)) → IsConsecutive 0 path → IsPrefix log path → EndsAt m path → EndsAt (min m (end_of log)) log
told_at m log path c p h = elim (cases_lt (end_of log) m) [
  | inl less ↦ (log, prefix_self log, omega (arith, less))
  | inr more ↦ (h.0, nested 0 h.0 log path c h.1 p (omega (arith, h.2, more)), h.2 ∙ omega (arith, more))
]

-- a broker that may acknowledge has a path of the registry's epoch, which its log begins
on_path : (paths : List Path) (epoch e : ℕ) (r : Role) (log : List (List ℕ)) → acking r ≡ Some e → epoch ≤ e → RoleSafe paths epoch r log → HasOnPath paths epoch log
on_path paths epoch e Idle log a le s = absurd cc
on_path paths epoch e (FollowsIn f) log a le s = absurd cc
on_path paths epoch e (LeadsIn f) log a le s =
    let one : f ≡ e = cc in
    let now : epoch ≡ f = omega (arith, one, le, s.0) in
    (log, ap (path_of paths) now ∙ s.1, prefix_self log)
on_path paths epoch e (Joined f) log a le s =
    let one : f ≡ e = cc in
    let now : epoch ≡ f = omega (arith, one, le, s.0) in
    (s.1.0, ap (path_of paths) now ∙ s.1.1, s.1.2)

-- what the registry says of an acknowledgement
stale_ack : (r after : Registry) (b : ℕ) (t : Replica) (e flushed_end n : ℕ) → after_ack r b t e flushed_end (Err (Reg.StaleEpoch n)) ≡ Some after → (is_behind r e ≡ true) × (n ≡ r.epoch) × (r ≡ after)
stale_ack r after b t e flushed_end n is =
    let w = when_some (is_behind r e && (n == r.epoch)) r after is in
    let k = both (is_behind r e) (n == r.epoch) w.0 in
    (k.0, eq_of n r.epoch k.1, w.1)

fresh_ack : (r after : Registry) (b : ℕ) (t : Replica) (e flushed_end mark : ℕ) → after_ack r b t e flushed_end (Done mark) ≡ Some after
    → (not (is_behind r e) ≡ true) × (mark ≡ (with_ack r b t flushed_end).mark) × (with_ack r b t flushed_end ≡ after)
fresh_ack r after b t e flushed_end mark is =
    let w = when_some (not (is_behind r e) && (mark == (with_ack r b t flushed_end).mark)) (with_ack r b t flushed_end) after is in
    let k = both (not (is_behind r e)) (mark == (with_ack r b t flushed_end).mark) w.0 in
    (k.0, eq_of mark (with_ack r b t flushed_end).mark k.1, w.1)

not_behind : (r : Registry) (e : ℕ) → not (is_behind r e) ≡ true → r.epoch ≤ e
not_behind r e is = let no = not_true (is_behind r e) is in grind (arith, nat_tests, no)

-- what an acknowledgement comes to
record Acks (h : SeenPartition) (p : State) (b : ℕ) (x : Node) (s : Replica) (e mark : ℕ) (h' : SeenPartition) : Type 0 where
  is : acking x.role ≡ Some e
  up : x.up ≡ true
  fresh : not (is_behind p.registry e) ≡ true
  mark_is : mark ≡ (with_ack p.registry b s x.flushed_end).mark
  after : h' ≡ acked h b x (with_ack p.registry b s x.flushed_end)
  moves : Moves h.registry (with_ack p.registry b s x.flushed_end)

acks_of : (h : SeenPartition) (p : State) (b : ℕ) (x : Node) (s : Replica) (mark : ℕ) (h' : SeenPartition) → Standing h p b x s → AckRow h b x (OkAt mark) h' → (e : ℕ) × Acks h p b x s e mark h'
acks_of h p b x s mark h' st w =
    let o = some_of _ (acking x.role) w.1 in
    let t = some_of _ (slice_get h.registry.replicas b) o.2 in
    let same = replica_is h p b x s t.0 st t.1 in
    let r = some_of _ (after_ack h.registry b t.0 o.0 x.flushed_end (Done mark)) t.2 in
    let k = fresh_ack h.registry r.0 b t.0 o.0 x.flushed_end mark r.1 in
    let reg = st.partition_state.registry in
    let ack : with_ack p.registry b s x.flushed_end ≡ with_ack h.registry b t.0 x.flushed_end =
    ap (λ (q : Registry). with_ack q b s x.flushed_end) reg ∙ ap (λ (q : Replica). with_ack h.registry b q x.flushed_end) (sym same) in (
      o.0,
      record {
        is = o.1;
        up = w.0;
        fresh = subst (λ (q : Registry). not (is_behind q o.0) ≡ true) (sym reg) k.0;
        mark_is = k.1 ∙ ap (λ (q : Registry). q.mark) (sym ack);
        after = r.2 ∙ ap (λ (q : Registry). acked h b x q) (sym (ack ∙ k.2));
        moves = subst (λ (q : Registry). Moves h.registry q) (sym (ack ∙ k.2)) (ack_moves h.registry b t.0 o.0 x.flushed_end (Done mark) r.0 r.1);
      },
    )

ack_given : (h : SeenPartition) (p : State) (b : ℕ) (x : Node) (s : Replica) (e mark : ℕ) (h' : SeenPartition) → Standing h p b x s → Acks h p b x s e mark h' → Allowed p b x s None Ack (OkAt mark) h'
ack_given h p b x s e mark h' st w =
    let bx = broker_at h p b x st.partition_state st.at in
    let safe = st.safe.brokers b (broker_of x) bx in
    let path = on_path p.paths p.registry.epoch e x.role x.log.batches w.is (not_behind p.registry e w.fresh) safe.role in
    let r = with_ack p.registry b s x.flushed_end in
    let q = acknowledged p b (broker_of x) s path.0 in
    let is : row p b (broker_of x) s None Ack (OkAt mark) ≡ Some q =
    does p b (broker_of x) s None Ack (OkAt mark) q (rw (w.up, w.is, not_true (is_behind p.registry e) w.fresh) refl) (rw path.1 (when_true _ q (eq_same _ _ w.mark_is))) in
    let after = (row_keeps p b (broker_of x) s None Ack (OkAt mark) q bx st.replica tt is st.safe).safe in
    let ends : EndsAt r.mark path.0 = (up_to r.mark path.0, up_to_prefix r.mark path.0, after.marks.ends) in
    let told = told_at r.mark x.log.batches path.0 (st.safe.paths p.registry.epoch path.0 path.1).log_safe.consecutive path.2 ends in
    let y : Node = record x { known_high_watermark = min r.mark (end_of x.log.batches) } in
    let l = st.lines.each b x st.at in
    let put : LinesStand (put_node h b y) p.paths p.broken = lines_put h p.paths p.paths p.broken p.broken b y st.lines (wider_self p.paths) (keeps_self p.broken) (λ other has. has)
    (record { sound = node_told x (min r.mark (end_of x.log.batches)) l.sound w.up told; paths_are = l.paths_are; saved_are = l.saved_are; back_are = l.back_are; joined = l.joined })
    (λ it has. st.lines.leader x (ap (λ (c : ℕ). slice_get h.nodes c) it ∙ st.at) has) (λ f. st.lines.followers b x st.at f) in
    record {
      state = q;
      is = is;
      registry = ap (λ (k : SeenPartition). k.registry) (sym w.after);
      brokers = ap (λ (k : List Broker). slice_set k b (record (broker_of x) { known_high_watermark = min r.mark (end_of x.log.batches) })) st.partition_state.brokers
          ∙ (sym (map_set broker_of h.nodes b y) ∙ ap (λ (k : SeenPartition). map broker_of k.nodes) (sym w.after));
      actors = refl;
      paths = wider_self p.paths;
      lines = λ _. subst (λ (k : SeenPartition). LinesStand k p.paths p.broken) (sym w.after) (same put);
      steady = steady_set p q b (broker_of x) (record (broker_of x) { known_high_watermark = min r.mark (end_of x.log.batches) }) bx refl refl refl (λ it. omega arith);
    }
  where
    same : LinesStand (put_node h b (record x { known_high_watermark = min (with_ack p.registry b s x.flushed_end).mark (end_of x.log.batches) })) p.paths p.broken
        → LinesStand (acked h b x (with_ack p.registry b s x.flushed_end)) p.paths p.broken
    same l = elim w.moves.epoch [
      | inl k ↦ lines_same (put_node h b (record x { known_high_watermark = min (with_ack p.registry b s x.flushed_end).mark (end_of x.log.batches) })) p.paths p.broken (with_ack p.registry b s x.flushed_end) l k
      | inr k ↦ absurd (omega (arith, k.epoch, ap (λ (q : Registry). q.epoch) st.partition_state.registry))
    ]

pub ack_allowed : (h : SeenPartition) (p : State) (b : ℕ) (x : Node) (s : Replica) (answer : Answer) (h' : SeenPartition) → Standing h p b x s → AckRow h b x answer h' → Allowed p b x s None Ack answer h'
ack_allowed h p b x s Down h' st w = silent h p b x s None Ack Down h' st (rw w.0 refl) w.1
ack_allowed h p b x s NotJoined h' st w = silent h p b x s None Ack NotJoined h' st (rw (w.0, w.1) refl) w.2
ack_allowed h p b x s (StaleEpoch n) h' st w =
    let o = some_of _ (acking x.role) w.1 in
    let t = some_of _ (slice_get h.registry.replicas b) o.2 in
    let r = some_of _ (after_ack h.registry b t.0 o.0 x.flushed_end (Err (Reg.StaleEpoch n))) t.2 in
    let k = stale_ack h.registry r.0 b t.0 o.0 x.flushed_end n r.1 in
    let stale : is_behind p.registry o.0 ≡ true = subst (λ (q : Registry). is_behind q o.0 ≡ true) (sym st.partition_state.registry) k.0 in
    let epoch : n ≡ p.registry.epoch = k.1 ∙ ap (λ (q : Registry). q.epoch) (sym st.partition_state.registry) in
    leaves h p p b x s r.0 None Ack (StaleEpoch n) h' st
    (refuses p b (broker_of x) s None Ack (StaleEpoch n) (StaleEpoch p.registry.epoch) (rw (w.0, o.1, stale) refl) (eq_same _ _ epoch))
    (st.partition_state.registry ∙ k.2) refl refl refl refl (ack_moves h.registry b t.0 o.0 x.flushed_end (Err (Reg.StaleEpoch n)) r.0 r.1) r.2
ack_allowed h p b x s (OkAt mark) h' st w = let k = acks_of h p b x s mark h' st w in ack_given h p b x s k.0 mark h' st k.1
ack_allowed h p b x s other h' st w = elim w [ ]

-- learn

known_true : (h : SeenPartition) (p : State) (x : Node) → PartitionMatches h p → IsKnown h x → knows p.registry x.role ≡ true
known_true h p x st is = rw is (eq_same _ _ (ap (λ (q : Registry). q.epoch) (sym st.registry)))

known_false : (h : SeenPartition) (p : State) (x : Node) → PartitionMatches h p → (IsKnown h x → ⊥) → knows p.registry x.role ≡ false
known_false h p x st new = go (epoch_in x.role) refl
  where
    go : (o : Option ℕ) → epoch_in x.role ≡ o → knows p.registry x.role ≡ false
    go None is = rw is refl
    go (Some e) is = rw is (eq_differs e p.registry.epoch (λ same. new (is ∙ ap (λ (n : ℕ). Some n) (same ∙ ap (λ (q : Registry). q.epoch) st.registry))))

-- the broker isn't refused to learn
may_learn : (h : SeenPartition) (p : State) (b : ℕ) (x : Node) → PartitionMatches h p → x.up ≡ true → (IsKnown h x → ⊥) → refusal_at p b (broker_of x) None Learn ≡ None
may_learn h p b x st up new = rw (up, known_false h p x st new) refl

-- and this is the registry's epoch
epoch_is : (h : SeenPartition) (p : State) (n : ℕ) → PartitionMatches h p → n ≡ h.registry.epoch → n ≡ p.registry.epoch
epoch_is h p n st is = is ∙ ap (λ (q : Registry). q.epoch) (sym st.registry)

-- the lead of the last entry's epoch was taken
last_taken : (paths : List Path) (broken : List ℕ) (line : List (ℕ × ℕ)) (e : ℕ) → AllByRecursion (λ entry. was_taken paths broken entry.0 ≡ true) line → last_epoch line ≡ Some e
    → was_taken paths broken e ≡ true
last_taken paths broken [] e all is = absurd cc
last_taken paths broken (one ∷ []) e all is = let same : one.0 ≡ e = cc in subst (λ (n : ℕ). was_taken paths broken n ≡ true) same all.0
last_taken paths broken (one ∷ two ∷ line) e all is = last_taken paths broken (two ∷ line) e all.1 is

path_there : (p : State) (e : ℕ) → PlainSafe p → is_some (path_of p.paths e) ≡ true → e ≤ p.registry.epoch
path_there p e s h = go (path_of p.paths e) refl h
  where
    go : (o : Option (List (List ℕ))) → path_of p.paths e ≡ o → is_some o ≡ true → e ≤ p.registry.epoch
    go None is t = absurd cc
    go (Some log) is t = (s.paths e log is).below

taken_there : (p : State) (e : ℕ) → PlainSafe p → was_taken p.paths p.broken e ≡ true → e ≤ p.registry.epoch
taken_there p e s h = elim (by_taken p.paths p.broken e h) [
  | inl path ↦ path_there p e s path
  | inr off ↦ s.broken e off
]

-- a broker that is to lead an epoch that its leader epochs have was its leader, or took its lead and broke off
was_led : (h : SeenPartition) (p : State) (b : ℕ) (x : Node) (s : Replica) (n : ℕ) → Standing h p b x s → n ≡ h.registry.epoch → (IsNew x n → ⊥) → was_taken p.paths p.broken n ≡ true
was_led h p b x s n st is old = elim (by_last x.log.line) [
  | inl none ↦ absurd (old (λ last e. absurd (cc (e, none))))
  | inr some ↦
      let l = st.lines.each b x st.at in
      let has = last_taken p.paths p.broken x.log.line some.0 (recursion_from_All _ x.log.line l.paths_are) some.1 in
      let low = taken_there p some.0 st.safe has in
      elim (cases_lt some.0 n) [
        | inl less ↦ absurd (old (λ last e. (let same : last ≡ some.0 = cc (e, some.1) in omega (arith, same, less))))
        | inr more ↦
            let same : some.0 ≡ n = omega (arith, more, low, is, ap (λ (q : Registry). q.epoch) st.partition_state.registry) in
            subst (λ (k : ℕ). was_taken p.paths p.broken k ≡ true) same has
      ]
]

-- the lead of an epoch that the broker's line doesn't have wasn't taken
not_led : (h : SeenPartition) (p : State) (b : ℕ) (x : Node) (s : Replica) (n : ℕ) → Standing h p b x s → h.registry.leader.0 ≡ b → n ≡ h.registry.epoch → IsNew x n → has_path p n ≡ false
not_led h p b x s n st it is new = go (is_some (path_of p.paths n)) refl
  where
    last_is : (line : List (ℕ × ℕ)) (entry : ℕ × ℕ) → last_entry line ≡ Some entry → last_epoch line ≡ Some entry.0
    last_is line entry e = ap (option_map (λ (k : ℕ × ℕ). k.0)) e

    go : (t : Bool) → is_some (path_of p.paths n) ≡ t → has_path p n ≡ false
    go false e = e
    go true e =
        let k = st.lines.leader x (ap (λ (c : ℕ). slice_get h.nodes c) it ∙ st.at) (subst (λ (m : ℕ). is_some (path_of p.paths m) ≡ true) is e) in
        let low = new h.registry.epoch (last_is x.log.line (h.registry.epoch, k.0) k.1) in
        absurd (omega (arith, low, is))

-- the paths with a new one
path_new : (p : State) (n : ℕ) (log : List (List ℕ)) → has_path p n ≡ false → Wider p.paths (record { epoch = n; log = log } ∷ p.paths)
path_new p n log none e l is = go (n == e) refl
  where
    go : (t : Bool) → (n == e) ≡ t → HasOnPath (record { epoch = n; log = log } ∷ p.paths) e l
    go true t =
        let same : n ≡ e = grind (arith, nat_tests, t) in
        let has : has_path p n ≡ true = rw (ap (path_of p.paths) same ∙ is) refl in
        absurd (let no : true ≡ false = sym has ∙ none in cc)
    go false t = (l, rw t is, prefix_self l)

new_path : (ps : List Path) (n : ℕ) (log : List (List ℕ)) → path_of (record { epoch = n; log = log } ∷ ps) n ≡ Some log
new_path ps n log = rw (eq_same n n refl) refl

-- the line of a broker that leads
led_taken : (paths : List Path) (broken : List ℕ) (line : List (ℕ × ℕ)) (log : List (List ℕ)) (n end : ℕ) → line ≡ line_of log ++ (n, end) ∷ [] → WereElected paths broken (line_of log)
    → was_taken paths broken n ≡ true → WereElected paths broken line
led_taken paths broken line log n end is all one = subst (WereElected paths broken) (sym is) (All-from_recursion _ (line_of log ++ (n, end) ∷ []) (more (line_of log) (recursion_from_All _ (line_of log) all)))
  where
    more : (xs : List (ℕ × ℕ)) → AllByRecursion (λ entry. was_taken paths broken entry.0 ≡ true) xs → AllByRecursion (λ entry. was_taken paths broken entry.0 ≡ true) (xs ++ (n, end) ∷ [])
    more [] a = (one, tt)
    more (x ∷ xs) a = (a.0, more xs a.1)

-- the registry's epoch is one that a line can have
small : (e old limit : ℕ) → e ≤ limit → e ≡ old → limit ≡ 2147483647 → old < 2 ^ 31
small e old limit le is l = omega (arith, is, le, l)

last_pushed : (line : List (ℕ × ℕ)) (entry : ℕ × ℕ) → last_entry (line ++ entry ∷ []) ≡ Some entry
last_pushed [] entry = refl
last_pushed (one ∷ []) entry = refl
last_pushed (one ∷ two ∷ line) entry = last_pushed (two ∷ line) entry

learn_leads : (h : SeenPartition) (p : State) (b : ℕ) (x : Node) (s : Replica) (n : ℕ) (h' : SeenPartition) → Standing h p b x s → LearnRow h b x (Leads n) h' → Allowed p b x s None Learn (Leads n) h'
learn_leads h p b x s n h' st w =
    let l = st.lines.each b x st.at in
    let bx = broker_at h p b x st.partition_state st.at in
    let reg = st.partition_state.registry in
    let free = not_led h p b x s n st w.2 w.3 w.4 in
    let q = led_plain p b (broker_of x) n in
    let leader : (p.registry.leader.0 == b) ≡ true = eq_same _ _ (ap (λ (k : Registry). k.leader.0) reg ∙ w.2) in
    let now = epoch_is h p n st.partition_state w.3 in
    let is : row p b (broker_of x) s None Learn (Leads n) ≡ Some q =
    does p b (broker_of x) s None Learn (Leads n) q (may_learn h p b x st.partition_state w.0 w.1)
    (when_true _ q (and_true _ _ (eq_same _ _ now) (and_true _ _ leader (not_false _ (subst (λ (m : ℕ). has_path p m ≡ false) now free))))) in
    let after = (row_keeps p b (broker_of x) s None Learn (Leads n) q bx st.replica tt is st.safe).safe in
    let z = after.brokers b (record (broker_of x) { role = LeadsIn n; flushed_end = end_of x.log.batches; known_high_watermark = p.registry.mark }) (get_put p.brokers b (broker_of x) _ bx) in
    let high = ends_below p.registry.mark x.log.batches l.sound.log.consecutive z.known_high_watermark in
    let mark : min h.registry.mark (end_of x.log.batches) ≡ p.registry.mark =
    ap (λ (k : Registry). min k.mark (end_of x.log.batches)) (sym reg) ∙ omega (arith, high) in
    let epoch : h.registry.epoch < 2 ^ 31 = small p.registry.epoch h.registry.epoch epoch_limit st.safe.marks.epoch (ap (λ (k : Registry). k.epoch) reg) refl in
    let line = assign_line x.log.line x.log.batches n l.sound.log.consecutive l.sound.log.line_is in
    let paths : LogsSafe q → WereElected q.paths p.broken (led h x n).log.line = λ safe.
    led_taken q.paths p.broken (led h x n).log.line x.log.batches n (end_of x.log.batches) line
    (log_taken q.paths p.broken x.log.batches (safe b _ (get_put p.brokers b (broker_of x) (record (broker_of x) { role = LeadsIn n; flushed_end = end_of x.log.batches; known_high_watermark = p.registry.mark }) bx)))
    (path_taken q.paths p.broken n (rw (new_path p.paths n x.log.batches) refl)) in
    let last : last_entry (led h x n).log.line ≡ Some (h.registry.epoch, end_of x.log.batches) =
    ap last_entry line ∙ (last_pushed (line_of x.log.batches) (n, end_of x.log.batches) ∙ ap (λ (k : ℕ). Some (k, end_of x.log.batches)) w.3) in
    put h p q b x (led h x n) s None Learn (Leads n) h' st is (record {
      registry = refl;
      brokers = ap (λ (m : ℕ). slice_set p.brokers b (record (broker_of x) { role = LeadsIn n; flushed_end = end_of x.log.batches; known_high_watermark = m })) (sym mark);
      actors = refl;
      paths = path_new p n x.log.batches free;
      broken = keeps_self p.broken;
      keys = λ other. absurd (other w.2);
      sound = node_led h x n l.sound w.0 w.4 (subst (λ (k : ℕ). k < 2 ^ 31) (sym w.3) epoch) (subst (λ (k : ℕ). EndsAt k x.log.batches) (sym mark) z.known_high_watermark);
      paths_are = paths;
      saved_are = paths;
      back_are = λ safe back b. absurd (none_back x back l.sound w.0 b);
      joined = λ e j. absurd cc;
      leader = λ it has. (end_of x.log.batches, last, last, omega arith, λ back b. absurd (none_back x back l.sound w.0 b), subst (λ (k : ℕ). HasOnPath q.paths k x.log.batches) w.3 (x.log.batches, new_path p.paths n x.log.batches, prefix_self x.log.batches));
      followers = λ f. absurd cc;
      steady = λ it. ends_below x.flushed_end x.log.batches l.sound.log.consecutive l.sound.flushed_end;
    }) w.5

-- the taking of a lead that broke off
learn_breaks : (h : SeenPartition) (p : State) (b : ℕ) (x : Node) (s : Replica) (h' : SeenPartition) → Standing h p b x s → LearnRow h b x DiskFault h' → Allowed p b x s None Learn DiskFault h'
learn_breaks h p b x s h' st w =
    let l = st.lines.each b x st.at in
    let bx = broker_at h p b x st.partition_state st.at in
    let reg = st.partition_state.registry in
    let n = h.registry.epoch in
    let m = p.registry.epoch in
    let same : m ≡ n = ap (λ (k : Registry). k.epoch) reg in
    let free = not_led h p b x s m st w.2 same (new_at x n m (sym same) w.3) in
    let end = end_of x.log.batches in
    let line = assign x.log.line n end in
    let q : State = record (breaks p b (broker_of x)) { broken = m ∷ p.broken } in
    let leader : (p.registry.leader.0 == b) ≡ true = eq_same _ _ (ap (λ (k : Registry). k.leader.0) reg ∙ w.2) in
    let is : row p b (broker_of x) s None Learn DiskFault ≡ Some q =
    does p b (broker_of x) s None Learn DiskFault q (may_learn h p b x st.partition_state w.0 w.1) (when_true _ q (and_true _ _ leader (not_false _ free))) in
    let keeps : Keeps p.broken (m ∷ p.broken) = keeps_more m p.broken in
    let fits : n < 2 ^ 31 = small m n epoch_limit st.safe.marks.epoch same refl in
    let line_is = assign_line x.log.line x.log.batches n l.sound.log.consecutive l.sound.log.line_is in
    let now : was_taken p.paths (m ∷ p.broken) n ≡ true = broken_taken p.paths (m ∷ p.broken) n (rw (eq_same m n same) refl) in
    let taken : WereElected p.paths (m ∷ p.broken) line =
    led_taken p.paths (m ∷ p.broken) line x.log.batches n end line_is (log_taken p.paths (m ∷ p.broken) x.log.batches (st.safe.brokers b (broker_of x) bx).log) now in
    put h p q b x (broken x (end, line, x.local)) s None Learn DiskFault h' st is (record {
      registry = refl;
      brokers = refl;
      actors = refl;
      paths = wider_self p.paths;
      broken = keeps;
      keys = λ other has. has;
      sound = node_broken x (end, line, x.local) l.sound (lead_back x n l.sound w.3 fits);
      paths_are = λ safe. line_wide p.paths p.paths p.broken (m ∷ p.broken) x.log.line (wider_self p.paths) keeps l.paths_are;
      saved_are = λ safe. line_wide p.paths p.paths p.broken (m ∷ p.broken) x.saved (wider_self p.paths) keeps l.saved_are;
      back_are = λ safe back e. (let one : (end, line, x.local) ≡ back = cc (e) in subst (λ (k : Back). WereElected p.paths (m ∷ p.broken) k.1) one taken);
      joined = λ e j. absurd cc;
      leader = λ it has.
          let had : is_some (path_of p.paths m) ≡ true = subst (λ (k : ℕ). is_some (path_of p.paths k) ≡ true) (sym same) has in
          absurd (let no : true ≡ false = sym had ∙ free in cc);
      followers = λ f. absurd cc;
      steady = λ it. omega arith;
    }) w.4
  where
    new_at : (x : Node) (n m : ℕ) → n ≡ m → IsNew x n → IsNew x m
    new_at x n m e new = subst (λ (k : ℕ). IsNew x k) e new

    keeps_more : (m : ℕ) (bs : List ℕ) → Keeps bs (m ∷ bs)
    keeps_more m bs e is = go (m == e)
      where
        go : (t : Bool) → (if t then true else is_in e bs) ≡ true
        go true = refl
        go false = is

learn_follows : (h : SeenPartition) (p : State) (b : ℕ) (x : Node) (s : Replica) (n : ℕ) (h' : SeenPartition) → Standing h p b x s → LearnRow h b x (Follows n) h' → Allowed p b x s None Learn (Follows n) h'
learn_follows h p b x s n h' st w =
    let l = st.lines.each b x st.at in
    let other : (p.registry.leader.0 == b) ≡ false = eq_differs _ _ (λ e. w.2 (ap (λ (k : Registry). k.leader.0) (sym st.partition_state.registry) ∙ e)) in
    put h p (put_broker p b (record (broker_of x) { role = FollowsIn n })) b x (record x { role = FollowsIn n }) s None Learn (Follows n) h' st
    (does p b (broker_of x) s None Learn (Follows n) (put_broker p b (record (broker_of x) { role = FollowsIn n })) (may_learn h p b x st.partition_state w.0 w.1)
    (when_true _ (put_broker p b (record (broker_of x) { role = FollowsIn n })) (and_true _ _ (eq_same _ _ (epoch_is h p n st.partition_state w.3)) (not_false _ other)))) (record {
      registry = refl;
      brokers = refl;
      actors = refl;
      paths = wider_self p.paths;
      broken = keeps_self p.broken;
      keys = λ other has. has;
      sound = node_follows x n l.sound w.0;
      paths_are = λ safe. l.paths_are;
      saved_are = λ safe. l.saved_are;
      back_are = λ safe. l.back_are;
      joined = λ e j. absurd cc;
      leader = λ it. absurd (w.2 it);
      followers = λ f. w.2;
      steady = λ it. omega arith;
    }) w.4

pub learn_allowed : (h : SeenPartition) (p : State) (b : ℕ) (x : Node) (s : Replica) (answer : Answer) (h' : SeenPartition) → Standing h p b x s → LearnRow h b x answer h' → Allowed p b x s None Learn answer h'
learn_allowed h p b x s Down h' st w = silent h p b x s None Learn Down h' st (rw w.0 refl) w.1
learn_allowed h p b x s Known h' st w = silent h p b x s None Learn Known h' st (rw (w.0, known_true h p x st.partition_state w.1) refl) w.2
learn_allowed h p b x s (Follows n) h' st w = learn_follows h p b x s n h' st w
learn_allowed h p b x s (NeedsElection n) h' st w =
    let leader : (p.registry.leader.0 == b) ≡ true = eq_same _ _ (ap (λ (k : Registry). k.leader.0) st.partition_state.registry ∙ w.2) in
    let had = was_led h p b x s n st w.3 w.4 in
    silent h p b x s None Learn (NeedsElection n) h' st (does p b (broker_of x) s None Learn (NeedsElection n) p (may_learn h p b x st.partition_state w.0 w.1)
    (when_true _ p (and_true _ _ (and_true _ _ (eq_same _ _ (epoch_is h p n st.partition_state w.3)) leader) had))) w.5
learn_allowed h p b x s DiskFault h' st w = learn_breaks h p b x s h' st w
learn_allowed h p b x s (Leads n) h' st w = learn_leads h p b x s n h' st w
learn_allowed h p b x s other h' st w = elim w [ ]
