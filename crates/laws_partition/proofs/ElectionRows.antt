-- The rows of the registry's commands, and of a broker that learns of an election, are the plain log's.
use Rattle.std.proofs.Common.{◌≡◌, ◌∙◌, ap, subst, refl, ℕ, ◌+◌, ◌<◌, ◌==◌, ◌&&◌, not, slice_get, Some, None, Option, Result, Ok as Done, Err, true, arith}
use Rattle.std.specs.Prelude.{nat_lt, nat_le}
use Rattle.std.proofs.lemmas.Bool.Decides.{nat_tests}
use Rattle.registry.specs.declared.registry.Replica.{Replica}
use Rattle.registry.specs.declared.registry.Registry.{Registry}
use Rattle.registry.specs.declared.refusal.RegRefusal.{RegRefusal}
use Rattle.registry.specs.declared.refusal.RegRefusal.TheVariants as Reg
use Rattle.registry.specs.Replicas.{AtReplica}
use Rattle.registry.specs.Registry.{elected, elected_alone, shrunk, expanded, started}
use Rattle.registry.specs.Calls.{is_last, is_stale, after_elect, after_unclean, after_shrink, after_expand, after_raise}
use Rattle.plain_log.specs.declared.answer.Answer.{Answer}
use Rattle.plain_log.specs.declared.answer.Answer.TheVariants.{Ok, OkAt, Down, NotLeader, LastEpoch, NotInSync, DownBroker, BehindStart, StaleEpoch, IsLeader, Behind, NotAbove, AboveMark}
use Rattle.plain_log.specs.declared.command.Command.{Command}
use Rattle.plain_log.specs.declared.command.Command.TheVariants.{Elect, Unclean, Shrink, Expand, Raise}
use Rattle.plain_log.specs.declared.state.State.{State}
use Rattle.plain_log.specs.declared.state.Broker.{Broker}
use Rattle.plain_log.specs.declared.state.Role.TheVariants.{Leads as LeadsIn}
use Rattle.plain_log.specs.State.{set_registry}
use Rattle.plain_log.specs.RowsOfElections.{restarted}
use Rattle.plain_log.specs.Rows.{row, refusal_at}
use Rattle.plain_log.specs.Refusals.{same_refusal}
use Rattle.plain_log.proofs.Options.{when_some, both, not_true, le_of}
use Rattle.laws_partition.specs.Seen.{Node, SeenPartition}
use Rattle.laws_partition.specs.Partition.{broker_of}
use Rattle.laws_partition.specs.RowsOfElections.{Leaves, ElectRow, UncleanRow, ShrinkRow, ExpandRow, RaiseRow}
use Rattle.laws_partition.proofs.BoolTests.{some_of, and_true, when_true, le_false, lt_false}
use Rattle.laws_partition.proofs.Refusing.{refuses, does}
use Rattle.laws_partition.proofs.RegistryLaw.{Moves, elect_moves, unclean_moves, shrink_moves, expand_moves, raise_moves}
use Rattle.laws_partition.proofs.Standing.{Standing, Allowed, silent, leaves}

-- what a row of the registry leaves
calls : (h : SeenPartition) (p q : State) (b : ℕ) (x : Node) (s : Replica) (command : Command) (answer : Answer) (h' : SeenPartition) (f : Registry → Option Registry) → Standing h p b x s
    → q.registry ≡ p.registry → q.brokers ≡ p.brokers → q.actors ≡ p.actors → q.paths ≡ p.paths → q.broken ≡ p.broken
    → ((r : Registry) → f p.registry ≡ Some r → row p b (broker_of x) s None command answer ≡ Some (set_registry q r)) → ((r : Registry) → f h.registry ≡ Some r → Moves h.registry r)
    → Leaves h (f h.registry) h' → Allowed p b x s None command answer h'
calls h p q b x s command answer h' f st registry brokers actors paths broken to moves w =
    let r = some_of _ (f h.registry) w in
    let is : f p.registry ≡ Some r.0 = ap f st.partition_state.registry ∙ r.1 in
    leaves h p (set_registry q r.0) b x s r.0 None command answer h' st (to r.0 is) refl brokers actors paths broken (moves r.0 r.1) r.2

lt_of : (n m : ℕ) → nat_lt n m ≡ true → n < m
lt_of n m t = grind (arith, nat_tests, t)

-- a refusal leaves the registry as it was
stays : (p : State) (b : ℕ) (y : Broker) (s : Replica) (command : Command) (answer why : Answer) (r : Registry) → refusal_at p b y None command ≡ Some why → same_refusal answer why ≡ true
    → p.registry ≡ r → row p b y s None command answer ≡ Some (set_registry p r)
stays p b y s command answer why r is same at = refuses p b y s None command answer why is same ∙ ap (λ (k : Registry). Some (set_registry p k)) at

-- the registry's replica is the plain log's
pub replica_is : (h : SeenPartition) (p : State) (b : ℕ) (x : Node) (s t : Replica) → Standing h p b x s → slice_get h.registry.replicas b ≡ Some t → t ≡ s
replica_is h p b x s t st at = cc (at, st.replica, ap (λ (k : Registry). slice_get k.replicas b) st.partition_state.registry)

-- elect

elect_by : (h : SeenPartition) (p : State) (b : ℕ) (x : Node) (s : Replica) (answer : Answer) (result : Result ℕ RegRefusal) (h' : SeenPartition) → Standing h p b x s
    → ((r : Registry) → after_elect p.registry b s x.up result ≡ Some r → row p b (broker_of x) s None Elect answer ≡ Some (set_registry p r))
    → AtReplica h.registry b (λ t. Leaves h (after_elect h.registry b t x.up result) h') → Allowed p b x s None Elect answer h'
elect_by h p b x s answer result h' st to w =
    let t = some_of _ (slice_get h.registry.replicas b) w in
    let same = replica_is h p b x s t.0 st t.1 in
    calls h p p b x s Elect answer h' (λ (r : Registry). after_elect r b s x.up result) st refl refl refl refl refl to
    (λ r e. elect_moves h.registry b s x.up result r e) (subst (λ (k : Replica). Leaves h (after_elect h.registry b k x.up result) h') same t.2)

pub elect_allowed : (h : SeenPartition) (p : State) (b : ℕ) (x : Node) (s : Replica) (answer : Answer) (h' : SeenPartition) → Standing h p b x s → ElectRow h b x answer h' → Allowed p b x s None Elect answer h'
elect_allowed h p b x s LastEpoch h' st w = elect_by h p b x s LastEpoch (Err Reg.LastEpoch) h' st
    (λ r e. let k = when_some (is_last p.registry) p.registry r e in stays p b (broker_of x) s Elect LastEpoch LastEpoch r (rw k.0 refl) refl k.1) w
elect_allowed h p b x s NotInSync h' st w = elect_by h p b x s NotInSync (Err Reg.NotInSync) h' st
    (λ r e.
    let k = when_some (not (is_last p.registry) && not s.in_sync) p.registry r e in
    let t = both (not (is_last p.registry)) (not s.in_sync) k.0 in
    stays p b (broker_of x) s Elect NotInSync NotInSync r (rw (not_true _ t.0, st.replica, not_true s.in_sync t.1) refl) refl k.1) w
elect_allowed h p b x s DownBroker h' st w = elect_by h p b x s DownBroker (Err Reg.DownBroker) h' st
    (λ r e.
    let k = when_some (not (is_last p.registry) && s.in_sync && not x.up) p.registry r e in
    let t = both (not (is_last p.registry) && s.in_sync) (not x.up) k.0 in
    let u = both (not (is_last p.registry)) s.in_sync t.0 in
    stays p b (broker_of x) s Elect DownBroker DownBroker r (rw (not_true _ u.0, st.replica, u.1, not_true x.up t.1) refl) refl k.1) w
elect_allowed h p b x s (OkAt n) h' st w = elect_by h p b x s (OkAt n) (Done n) h' st
    (λ r e.
    let k = when_some (not (is_last p.registry) && s.in_sync && x.up && (n == p.registry.epoch + 1)) (elected p.registry b) r e in
    let t = both (not (is_last p.registry) && s.in_sync && x.up) (n == p.registry.epoch + 1) k.0 in
    let u = both (not (is_last p.registry) && s.in_sync) x.up t.0 in
    let v = both (not (is_last p.registry)) s.in_sync u.0 in
    does p b (broker_of x) s None Elect (OkAt n) (set_registry p (elected p.registry b)) (rw (not_true _ v.0, st.replica, v.1, u.1) refl) (when_true _ (set_registry p (elected p.registry b)) t.1)
    ∙ ap (λ (q : Registry). Some (set_registry p q)) k.1) w
elect_allowed h p b x s other h' st w = elim w [ ]

-- unclean

unclean_by : (h : SeenPartition) (p q : State) (b : ℕ) (x : Node) (s : Replica) (answer : Answer) (result : Result ℕ RegRefusal) (h' : SeenPartition) → Standing h p b x s
    → q.registry ≡ p.registry → q.brokers ≡ p.brokers → q.actors ≡ p.actors → q.paths ≡ p.paths → q.broken ≡ p.broken
    → ((r : Registry) → after_unclean p.registry b x.up x.flushed_end result ≡ Some r → row p b (broker_of x) s None Unclean answer ≡ Some (set_registry q r))
    → Leaves h (after_unclean h.registry b x.up x.flushed_end result) h' → Allowed p b x s None Unclean answer h'
unclean_by h p q b x s answer result h' st registry brokers actors paths broken to w =
    calls h p q b x s Unclean answer h' (λ (r : Registry). after_unclean r b x.up x.flushed_end result) st registry brokers actors paths broken to
    (λ r e. unclean_moves h.registry b x.up x.flushed_end result r e) w

pub unclean_allowed : (h : SeenPartition) (p : State) (b : ℕ) (x : Node) (s : Replica) (answer : Answer) (h' : SeenPartition) → Standing h p b x s → UncleanRow h b x answer h' → Allowed p b x s None Unclean answer h'
unclean_allowed h p b x s LastEpoch h' st w = unclean_by h p p b x s LastEpoch (Err Reg.LastEpoch) h' st refl refl refl refl refl
    (λ r e. let k = when_some (is_last p.registry) p.registry r e in stays p b (broker_of x) s Unclean LastEpoch LastEpoch r (rw k.0 refl) refl k.1) w
unclean_allowed h p b x s DownBroker h' st w = unclean_by h p p b x s DownBroker (Err Reg.DownBroker) h' st refl refl refl refl refl
    (λ r e.
    let k = when_some (not (is_last p.registry) && not x.up) p.registry r e in
    let t = both (not (is_last p.registry)) (not x.up) k.0 in
    stays p b (broker_of x) s Unclean DownBroker DownBroker r (rw (not_true _ t.0, not_true x.up t.1) refl) refl k.1) w
unclean_allowed h p b x s (BehindStart end start) h' st w = unclean_by h p p b x s (BehindStart end start) (Err (Reg.BehindStart end start)) h' st refl refl refl refl refl
    (λ r e.
    let k = when_some (not (is_last p.registry) && x.up && nat_lt x.flushed_end p.registry.start && (end == x.flushed_end) && (start == p.registry.start)) p.registry r e in
    let t = both (not (is_last p.registry) && x.up && nat_lt x.flushed_end p.registry.start && (end == x.flushed_end)) (start == p.registry.start) k.0 in
    let u = both (not (is_last p.registry) && x.up && nat_lt x.flushed_end p.registry.start) (end == x.flushed_end) t.0 in
    let v = both (not (is_last p.registry) && x.up) (nat_lt x.flushed_end p.registry.start) u.0 in
    let z = both (not (is_last p.registry)) x.up v.0 in
    stays p b (broker_of x) s Unclean (BehindStart end start) (BehindStart x.flushed_end p.registry.start) r
    (rw (not_true _ z.0, z.1, v.1) refl) (and_true _ _ u.1 t.1) k.1) w
unclean_allowed h p b x s (OkAt n) h' st w = unclean_by h p (restarted p (broker_of x)) b x s (OkAt n) (Done n) h' st refl refl refl refl refl
    (λ r e.
    let one = elected_alone p.registry b x.flushed_end in
    let k = when_some (not (is_last p.registry) && x.up && nat_le p.registry.start x.flushed_end && (n == p.registry.epoch + 1)) one r e in
    let t = both (not (is_last p.registry) && x.up && nat_le p.registry.start x.flushed_end) (n == p.registry.epoch + 1) k.0 in
    let u = both (not (is_last p.registry) && x.up) (nat_le p.registry.start x.flushed_end) t.0 in
    let v = both (not (is_last p.registry)) x.up u.0 in
    let low = lt_false x.flushed_end p.registry.start (le_of p.registry.start x.flushed_end u.1) in
    does p b (broker_of x) s None Unclean (OkAt n) (set_registry (restarted p (broker_of x)) one) (rw (not_true _ v.0, v.1, low) refl) (when_true _ (set_registry (restarted p (broker_of x)) one) t.1)
    ∙ ap (λ (q : Registry). Some (set_registry (restarted p (broker_of x)) q)) k.1) w
unclean_allowed h p b x s other h' st w = elim w [ ]

-- shrink, expand

shrink_by : (h : SeenPartition) (p : State) (b : ℕ) (x : Node) (s : Replica) (answer : Answer) (result : Result (Unit {0}) RegRefusal) (h' : SeenPartition) → Standing h p b x s
    → ((r : Registry) → after_shrink p.registry b s result ≡ Some r → row p b (broker_of x) s None Shrink answer ≡ Some (set_registry p r))
    → AtReplica h.registry b (λ t. Leaves h (after_shrink h.registry b t result) h') → Allowed p b x s None Shrink answer h'
shrink_by h p b x s answer result h' st to w =
    let t = some_of _ (slice_get h.registry.replicas b) w in
    let same = replica_is h p b x s t.0 st t.1 in
    calls h p p b x s Shrink answer h' (λ (r : Registry). after_shrink r b s result) st refl refl refl refl refl to
    (λ r e. shrink_moves h.registry b s result r e) (subst (λ (k : Replica). Leaves h (after_shrink h.registry b k result) h') same t.2)

pub shrink_allowed : (h : SeenPartition) (p : State) (b : ℕ) (x : Node) (s : Replica) (answer : Answer) (h' : SeenPartition) → Standing h p b x s → ShrinkRow h b answer h' → Allowed p b x s None Shrink answer h'
shrink_allowed h p b x s NotInSync h' st w = shrink_by h p b x s NotInSync (Err Reg.NotInSync) h' st
    (λ r e. let k = when_some (not s.in_sync) p.registry r e in stays p b (broker_of x) s Shrink NotInSync NotInSync r (rw (st.replica, not_true s.in_sync k.0) refl) refl k.1) w
shrink_allowed h p b x s IsLeader h' st w = shrink_by h p b x s IsLeader (Err Reg.IsLeader) h' st
    (λ r e.
    let k = when_some (s.in_sync && (p.registry.leader.0 == b)) p.registry r e in
    let t = both s.in_sync (p.registry.leader.0 == b) k.0 in
    stays p b (broker_of x) s Shrink IsLeader IsLeader r (rw (st.replica, t.0, t.1) refl) refl k.1) w
shrink_allowed h p b x s Ok h' st w = shrink_by h p b x s Ok (Done tt) h' st
    (λ r e.
    let k = when_some (s.in_sync && not (p.registry.leader.0 == b)) (shrunk p.registry b s) r e in
    let t = both s.in_sync (not (p.registry.leader.0 == b)) k.0 in
    does p b (broker_of x) s None Shrink Ok (set_registry p (shrunk p.registry b s)) (rw (st.replica, t.0, not_true (p.registry.leader.0 == b) t.1) refl) refl
    ∙ ap (λ (q : Registry). Some (set_registry p q)) k.1) w
shrink_allowed h p b x s other h' st w = elim w [ ]

expand_by : (h : SeenPartition) (p : State) (b : ℕ) (x : Node) (s : Replica) (answer : Answer) (result : Result (Unit {0}) RegRefusal) (h' : SeenPartition) → Standing h p b x s
    → ((r : Registry) → after_expand p.registry b s x.up result ≡ Some r → row p b (broker_of x) s None Expand answer ≡ Some (set_registry p r))
    → AtReplica h.registry b (λ t. Leaves h (after_expand h.registry b t x.up result) h') → Allowed p b x s None Expand answer h'
expand_by h p b x s answer result h' st to w =
    let t = some_of _ (slice_get h.registry.replicas b) w in
    let same = replica_is h p b x s t.0 st t.1 in
    calls h p p b x s Expand answer h' (λ (r : Registry). after_expand r b s x.up result) st refl refl refl refl refl to
    (λ r e. expand_moves h.registry b s x.up result r e) (subst (λ (k : Replica). Leaves h (after_expand h.registry b k x.up result) h') same t.2)

pub expand_allowed : (h : SeenPartition) (p : State) (b : ℕ) (x : Node) (s : Replica) (answer : Answer) (h' : SeenPartition) → Standing h p b x s → ExpandRow h b x answer h' → Allowed p b x s None Expand answer h'
expand_allowed h p b x s DownBroker h' st w = expand_by h p b x s DownBroker (Err Reg.DownBroker) h' st
    (λ r e. let k = when_some (not x.up) p.registry r e in stays p b (broker_of x) s Expand DownBroker DownBroker r (rw (not_true x.up k.0) refl) refl k.1) w
expand_allowed h p b x s (Behind ack mark) h' st w = expand_by h p b x s (Behind ack mark) (Err (Reg.Behind ack mark)) h' st
    (λ r e.
    let k = when_some (x.up && nat_lt s.acked p.registry.mark && (ack == s.acked) && (mark == p.registry.mark)) p.registry r e in
    let t = both (x.up && nat_lt s.acked p.registry.mark && (ack == s.acked)) (mark == p.registry.mark) k.0 in
    let u = both (x.up && nat_lt s.acked p.registry.mark) (ack == s.acked) t.0 in
    let v = both x.up (nat_lt s.acked p.registry.mark) u.0 in
    stays p b (broker_of x) s Expand (Behind ack mark) (Behind s.acked p.registry.mark) r (rw (v.0, st.replica, v.1) refl) (and_true _ _ u.1 t.1) k.1) w
expand_allowed h p b x s Ok h' st w = expand_by h p b x s Ok (Done tt) h' st
    (λ r e.
    let k = when_some (x.up && nat_le p.registry.mark s.acked) (expanded p.registry b s) r e in
    let t = both x.up (nat_le p.registry.mark s.acked) k.0 in
    let high = lt_false s.acked p.registry.mark (le_of p.registry.mark s.acked t.1) in
    does p b (broker_of x) s None Expand Ok (set_registry p (expanded p.registry b s)) (rw (t.0, st.replica, high) refl) refl
    ∙ ap (λ (q : Registry). Some (set_registry p q)) k.1) w
expand_allowed h p b x s other h' st w = elim w [ ]

-- raise

raise_by : (h : SeenPartition) (p : State) (b : ℕ) (x : Node) (s : Replica) (wanted : ℕ) (answer : Answer) (result : Result ℕ RegRefusal) (h' : SeenPartition) → Standing h p b x s
    → ((e : ℕ) (r : Registry) → x.up ≡ true → x.role ≡ LeadsIn e → after_raise p.registry e wanted result ≡ Some r → row p b (broker_of x) s None (Raise wanted) answer ≡ Some (set_registry p r))
    → (x.up ≡ true) × ((e : ℕ) × (x.role ≡ LeadsIn e) × Leaves h (after_raise h.registry e wanted result) h') → Allowed p b x s None (Raise wanted) answer h'
raise_by h p b x s wanted answer result h' st to w =
    calls h p p b x s (Raise wanted) answer h' (λ (r : Registry). after_raise r w.1.0 wanted result) st refl refl refl refl refl
    (λ r e. to w.1.0 r w.0 w.1.1 e) (λ r e. raise_moves h.registry w.1.0 wanted result r e) w.1.2

pub raise_allowed : (h : SeenPartition) (p : State) (b : ℕ) (x : Node) (s : Replica) (wanted : ℕ) (answer : Answer) (h' : SeenPartition) → Standing h p b x s → RaiseRow h b x wanted answer h'
    → Allowed p b x s None (Raise wanted) answer h'
raise_allowed h p b x s wanted Down h' st w = silent h p b x s None (Raise wanted) Down h' st (rw w.0 refl) w.1
raise_allowed h p b x s wanted NotLeader h' st w = silent h p b x s None (Raise wanted) NotLeader h' st (rw (w.0, w.1) refl) w.2
raise_allowed h p b x s wanted (StaleEpoch n) h' st w = raise_by h p b x s wanted (StaleEpoch n) (Err (Reg.StaleEpoch n)) h' st
    (λ e r up role is.
    let k = when_some (is_stale p.registry e && (n == p.registry.epoch)) p.registry r is in
    let t = both (is_stale p.registry e) (n == p.registry.epoch) k.0 in
    stays p b (broker_of x) s (Raise wanted) (StaleEpoch n) (StaleEpoch p.registry.epoch) r (rw (up, role, t.0) refl) t.1 k.1) w
raise_allowed h p b x s wanted (NotAbove start) h' st w = raise_by h p b x s wanted (NotAbove start) (Err (Reg.NotAbove start)) h' st
    (λ e r up role is.
    let k = when_some (not (is_stale p.registry e) && nat_le wanted p.registry.start && (start == p.registry.start)) p.registry r is in
    let t = both (not (is_stale p.registry e) && nat_le wanted p.registry.start) (start == p.registry.start) k.0 in
    let u = both (not (is_stale p.registry e)) (nat_le wanted p.registry.start) t.0 in
    stays p b (broker_of x) s (Raise wanted) (NotAbove start) (NotAbove p.registry.start) r (rw (up, role, not_true (is_stale p.registry e) u.0, u.1) refl) t.1 k.1) w
raise_allowed h p b x s wanted (AboveMark mark) h' st w = raise_by h p b x s wanted (AboveMark mark) (Err (Reg.AboveMark mark)) h' st
    (λ e r up role is.
    let k = when_some (not (is_stale p.registry e) && nat_lt p.registry.start wanted && nat_lt p.registry.mark wanted && (mark == p.registry.mark)) p.registry r is in
    let t = both (not (is_stale p.registry e) && nat_lt p.registry.start wanted && nat_lt p.registry.mark wanted) (mark == p.registry.mark) k.0 in
    let u = both (not (is_stale p.registry e) && nat_lt p.registry.start wanted) (nat_lt p.registry.mark wanted) t.0 in
    let v = both (not (is_stale p.registry e)) (nat_lt p.registry.start wanted) u.0 in
    let low = le_false wanted p.registry.start (lt_of p.registry.start wanted v.1) in
    stays p b (broker_of x) s (Raise wanted) (AboveMark mark) (AboveMark p.registry.mark) r (rw (up, role, not_true (is_stale p.registry e) v.0, low, u.1) refl) t.1 k.1) w
raise_allowed h p b x s wanted (OkAt start) h' st w = raise_by h p b x s wanted (OkAt start) (Done start) h' st
    (λ e r up role is.
    let k = when_some (not (is_stale p.registry e) && nat_lt p.registry.start wanted && nat_le wanted p.registry.mark && (start == wanted)) (started p.registry wanted) r is in
    let t = both (not (is_stale p.registry e) && nat_lt p.registry.start wanted && nat_le wanted p.registry.mark) (start == wanted) k.0 in
    let u = both (not (is_stale p.registry e) && nat_lt p.registry.start wanted) (nat_le wanted p.registry.mark) t.0 in
    let v = both (not (is_stale p.registry e)) (nat_lt p.registry.start wanted) u.0 in
    let low = le_false wanted p.registry.start (lt_of p.registry.start wanted v.1) in
    let high = lt_false p.registry.mark wanted (le_of wanted p.registry.mark u.1) in
    does p b (broker_of x) s None (Raise wanted) (OkAt start) (set_registry p (started p.registry wanted)) (rw (up, role, not_true (is_stale p.registry e) v.0, low, high) refl)
    (when_true _ (set_registry p (started p.registry wanted)) t.1) ∙ ap (λ (q : Registry). Some (set_registry p q)) k.1) w
raise_allowed h p b x s wanted other h' st w = elim w [ ]
