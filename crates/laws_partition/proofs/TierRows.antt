-- The rows of commands on the remote tier are the plain log's: it sees nothing of the tier, but who leads, and the log
-- start offset.
use Rattle.std.proofs.Common.{◌≡◌, ◌∙◌, sym, ap, subst, refl, ℕ, ◌==◌, List, [], ◌∷◌, Some, None, Option, Ok as Done, Bool, true, false, not, ◌&&◌, arith}
use Rattle.std.proofs.lemmas.Bool.Decides.{nat_tests}
use Rattle.registry.specs.declared.registry.Replica.{Replica}
use Rattle.registry.specs.declared.registry.Registry.{Registry}
use Rattle.registry.specs.Registry.{started}
use Rattle.registry.specs.Calls.{is_stale, after_raise}
use Rattle.std.specs.Prelude.{nat_lt, nat_le}
use Rattle.log_terms.specs.Log.{end_of}
use Rattle.plain_log.specs.declared.answer.Answer.{Answer}
use Rattle.plain_log.specs.declared.answer.Answer.TheVariants.{Down, NotLeader, MetaFault, StoreFault, DiskFault, Damaged, LostLead, Level, Overtaken, CopiedSegment, CopyOff, Kept, StaleEpoch, Raised, Deleted, Stopped, OutOfRange, Empty, Run}
use Rattle.plain_log.specs.declared.command.Command.{Command}
use Rattle.plain_log.specs.declared.command.Command.TheVariants.{Copy, Expire, Fetch}
use Rattle.plain_log.specs.declared.command.Order.{Order}
use Rattle.plain_log.specs.declared.state.State.{State}
use Rattle.plain_log.specs.declared.state.Role.{Role}
use Rattle.plain_log.specs.declared.state.Role.TheVariants.{Idle, Leads, Follows, Joined}
use Rattle.plain_log.specs.State.{epoch_in, same_role, set_registry, facts_of, since_of}
use Rattle.plain_log.specs.Refusals.{has_stopped, other_role, lost_lead, out_of_range, empty, first_of}
use Rattle.plain_log.proofs.Options.{when_some, both}
use Rattle.plain_log.specs.RowsOfTiers.{is_behind}
use Rattle.plain_log.specs.Rows.{refusal_at, effect}
use Rattle.laws_partition.specs.declared.start_snapshot.StartSnapshot.{StartSnapshot}
use Rattle.laws_partition.specs.declared.start_snapshot.Turned.TheVariants.{Answers}
use Rattle.laws_partition.specs.Seen.{Node, SeenPartition}
use Rattle.laws_partition.specs.Partition.{broker_of, recorded_of}
use Rattle.laws_partition.specs.Central.{PartitionMatches}
use Rattle.laws_partition.specs.RowsOfTiers.{KeepsLead, GoesLeading, LeadersRow, CopyRow, CopyOnRow, ExpireOnRow, Raises, ServesCommitted, FetchOnRow}
use Rattle.laws_partition.specs.RowsOfLog.{IsInLog}
use Rattle.laws_partition.proofs.BoolTests.{some_of, and_true, when_true, eq_same, le_true, le_false, lt_true}
use Rattle.laws_partition.proofs.Refusing.{refuses, does, fails, skips, runs}
use Rattle.laws_partition.proofs.RegistryLaw.{raise_moves}
use Rattle.laws_partition.proofs.Standing.{Standing, Allowed, silent, leaves}
use Rattle.laws_partition.proofs.OwnRows.{not_in_range, in_range_of, run_allowed}
use Rattle.laws_partition.proofs.FollowRows.{epoch_same}

-- roles

role_same : (r q : Role) → r ≡ q → same_role r q ≡ true
role_same r q is = subst (λ (k : Role). same_role r k ≡ true) is (itself r)
  where
    itself : (r : Role) → same_role r r ≡ true
    itself Idle = refl
    itself (Leads e) = eq_same e e refl
    itself (Follows e) = eq_same e e refl
    itself (Joined e) = eq_same e e refl

number_is : (e f : ℕ) → (e == f) ≡ true → e ≡ f
number_is e f t = grind (arith, nat_tests, t)

same_is : (r q : Role) → same_role r q ≡ true → r ≡ q
same_is Idle Idle t = refl
same_is (Leads e) (Leads f) t = ap Leads (number_is e f t)
same_is (Follows e) (Follows f) t = ap Follows (number_is e f t)
same_is (Joined e) (Joined f) t = ap Joined (number_is e f t)
same_is r q t = absurd cc

pub role_differs : (r q : Role) → (r ≡ q → ⊥) → same_role r q ≡ false
role_differs r q differ = go (same_role r q) refl
  where
    go : (t : Bool) → same_role r q ≡ t → same_role r q ≡ false
    go true t = absurd (differ (same_is r q t))
    go false t = t

-- whether a broker continues

-- it leads as it did
lead_kept : (b : ℕ) (x : Node) (order : Order) (g : StartSnapshot) → KeepsLead x g → lost_lead (facts_of b (broker_of x)) (since_of (recorded_of order g)) ≡ None
lead_kept b x order g k = rw (k.up, eq_same g.stops x.stops k.stops, role_same g.role x.role k.role) refl

-- it doesn't
lead_lost : (b : ℕ) (x : Node) (order : Order) (g : StartSnapshot) → (KeepsLead x g → ⊥) → lost_lead (facts_of b (broker_of x)) (since_of (recorded_of order g)) ≡ Some LostLead
lead_lost b x order g lost = go x.up refl (g.stops == x.stops) refl (same_role g.role x.role) refl
  where
    go : (u : Bool) → x.up ≡ u → (s : Bool) → (g.stops == x.stops) ≡ s → (r : Bool) → same_role g.role x.role ≡ r → lost_lead (facts_of b (broker_of x)) (since_of (recorded_of order g)) ≡ Some LostLead
    go false u s is r t = rw u refl
    go true u false is r t = rw (u, is) refl
    go true u true is false t = rw (u, is, t) refl
    go true u true is true t = absurd (lost (record { stops = number_is g.stops x.stops is; up = u; role = same_is g.role x.role t }))

-- it is down, or has stopped since
pub gone : (b : ℕ) (x : Node) (order : Order) (g : StartSnapshot) → ((g.stops ≡ x.stops) × (x.up ≡ true) → ⊥) → has_stopped (facts_of b (broker_of x)) (since_of (recorded_of order g)) ≡ Some Stopped
gone b x order g off = go x.up refl (g.stops == x.stops) refl
  where
    go : (u : Bool) → x.up ≡ u → (t : Bool) → (g.stops == x.stops) ≡ t → has_stopped (facts_of b (broker_of x)) (since_of (recorded_of order g)) ≡ Some Stopped
    go false u t is = rw u refl
    go true u false is = rw (u, is) refl
    go true u true is = absurd (off (number_is g.stops x.stops is, u))

-- it has another role than then, or the same
pub role_lost : (b : ℕ) (x : Node) (order : Order) (g : StartSnapshot) → (g.role ≡ x.role → ⊥) → other_role (facts_of b (broker_of x)) (since_of (recorded_of order g)) ≡ Some NotLeader
role_lost b x order g differ = rw (role_differs g.role x.role differ) refl

pub role_kept : (b : ℕ) (x : Node) (order : Order) (g : StartSnapshot) → g.role ≡ x.role → other_role (facts_of b (broker_of x)) (since_of (recorded_of order g)) ≡ None
role_kept b x order g is = rw (role_same g.role x.role is) refl

-- a later turn of a leader's question isn't refused before its other tests
pub served : (b : ℕ) (x : Node) (order : Order) (g : StartSnapshot) (tests : List (Option Answer)) (why : Option Answer) → KeepsLead x g → first_of tests ≡ why
    → first_of (has_stopped (facts_of b (broker_of x)) (since_of (recorded_of order g)) ∷ other_role (facts_of b (broker_of x)) (since_of (recorded_of order g)) ∷ tests) ≡ why
served b x order g tests why k is =
    let f = facts_of b (broker_of x) in
    let n = since_of (recorded_of order g) in
    skips (has_stopped f n) (other_role f n ∷ tests) why (runs b x order g k.up k.stops) (skips (other_role f n) tests why (role_kept b x order g k.role) is)

-- it is refused since the broker stopped, or has another role
pub halts : (b : ℕ) (x : Node) (order : Order) (g : StartSnapshot) (tests : List (Option Answer)) → ((g.stops ≡ x.stops) × (x.up ≡ true) → ⊥)
    → first_of (has_stopped (facts_of b (broker_of x)) (since_of (recorded_of order g)) ∷ tests) ≡ Some Stopped
halts b x order g tests off = fails (has_stopped (facts_of b (broker_of x)) (since_of (recorded_of order g))) tests Stopped (gone b x order g off)

pub deposes : (b : ℕ) (x : Node) (order : Order) (g : StartSnapshot) (tests : List (Option Answer)) → g.stops ≡ x.stops → x.up ≡ true → (g.role ≡ x.role → ⊥)
    → first_of (has_stopped (facts_of b (broker_of x)) (since_of (recorded_of order g)) ∷ other_role (facts_of b (broker_of x)) (since_of (recorded_of order g)) ∷ tests) ≡ Some NotLeader
deposes b x order g tests same up differ =
    let f = facts_of b (broker_of x) in
    let n = since_of (recorded_of order g) in
    skips (has_stopped f n) (other_role f n ∷ tests) (Some NotLeader) (runs b x order g up same) (fails (other_role f n) tests NotLeader (role_lost b x order g differ))

-- turns that change nothing

goes : (h : SeenPartition) (p : State) (b : ℕ) (x : Node) (s : Replica) (order : Order) (g : StartSnapshot) (command : Command) (answer : Answer) (h' : SeenPartition) → Standing h p b x s
    → refusal_at p b (broker_of x) (Some (recorded_of order g)) command ≡ lost_lead (facts_of b (broker_of x)) (since_of (recorded_of order g))
    → effect p b (broker_of x) s (Some (recorded_of order g)) command answer ≡ Some p → GoesLeading h x g h' → Allowed p b x s (Some (recorded_of order g)) command answer h'
goes h p b x s order g command answer h' st tests to w =
    silent h p b x s (Some (recorded_of order g)) command answer h' st (does p b (broker_of x) s (Some (recorded_of order g)) command answer p (tests ∙ lead_kept b x order g w.0) to) w.1

loses : (h : SeenPartition) (p : State) (b : ℕ) (x : Node) (s : Replica) (order : Order) (g : StartSnapshot) (command : Command) (h' : SeenPartition) → Standing h p b x s
    → refusal_at p b (broker_of x) (Some (recorded_of order g)) command ≡ lost_lead (facts_of b (broker_of x)) (since_of (recorded_of order g))
    → (KeepsLead x g → ⊥) × (h' ≡ h) → Allowed p b x s (Some (recorded_of order g)) command LostLead h'
loses h p b x s order g command h' st tests w =
    silent h p b x s (Some (recorded_of order g)) command LostLead h' st
    (refuses p b (broker_of x) s (Some (recorded_of order g)) command LostLead LostLead (tests ∙ lead_lost b x order g w.0) refl) w.1

-- copy

pub copy_allowed : (h : SeenPartition) (p : State) (b : ℕ) (x : Node) (s : Replica) (answer : Answer) (h' : SeenPartition) → Standing h p b x s → CopyRow h x (Answers answer) h' → Allowed p b x s None Copy answer h'
copy_allowed h p b x s Down h' st w = silent h p b x s None Copy Down h' st (rw w.0 refl) w.1
copy_allowed h p b x s NotLeader h' st w = silent h p b x s None Copy NotLeader h' st (rw (w.0, w.1) refl) w.2
copy_allowed h p b x s CopyOff h' st w = silent h p b x s None Copy CopyOff h' st (rw (w.0, w.1) refl) w.2
copy_allowed h p b x s MetaFault h' st w = silent h p b x s None Copy MetaFault h' st (rw (w.0, w.1) refl) w.2
copy_allowed h p b x s other h' st w = elim w [ ]

pub copy_on_allowed : (h : SeenPartition) (p : State) (b : ℕ) (x : Node) (s : Replica) (order : Order) (g : StartSnapshot) (answer : Answer) (h' : SeenPartition) → Standing h p b x s
    → CopyOnRow h x g answer h' → Allowed p b x s (Some (recorded_of order g)) Copy answer h'
copy_on_allowed h p b x s order g LostLead h' st w = loses h p b x s order g Copy h' st refl w
copy_on_allowed h p b x s order g Level h' st w = goes h p b x s order g Copy Level h' st refl refl w
copy_on_allowed h p b x s order g DiskFault h' st w = goes h p b x s order g Copy DiskFault h' st refl refl w
copy_on_allowed h p b x s order g (Damaged place at) h' st w = goes h p b x s order g Copy (Damaged place at) h' st refl refl w
copy_on_allowed h p b x s order g MetaFault h' st w = goes h p b x s order g Copy MetaFault h' st refl refl w
copy_on_allowed h p b x s order g StoreFault h' st w = goes h p b x s order g Copy StoreFault h' st refl refl w
copy_on_allowed h p b x s order g (Overtaken state) h' st w = goes h p b x s order g Copy (Overtaken state) h' st refl refl w
copy_on_allowed h p b x s order g (CopiedSegment id start last) h' st w = goes h p b x s order g Copy (CopiedSegment id start last) h' st refl refl w
copy_on_allowed h p b x s order g other h' st w = elim w [ ]

-- expire

pub expire_allowed : (h : SeenPartition) (p : State) (b : ℕ) (x : Node) (s : Replica) (answer : Answer) (h' : SeenPartition) → Standing h p b x s → LeadersRow h x (Answers answer) h' → Allowed p b x s None Expire answer h'
expire_allowed h p b x s Down h' st w = silent h p b x s None Expire Down h' st (rw w.0 refl) w.1
expire_allowed h p b x s NotLeader h' st w = silent h p b x s None Expire NotLeader h' st (rw (w.0, w.1) refl) w.2
expire_allowed h p b x s MetaFault h' st w = silent h p b x s None Expire MetaFault h' st (rw (w.0, w.1) refl) w.2
expire_allowed h p b x s other h' st w = elim w [ ]

-- the registry raises the log start offset
raise_on : (h : SeenPartition) (p : State) (b : ℕ) (x : Node) (s : Replica) (order : Order) (g : StartSnapshot) (start : ℕ) (h' : SeenPartition) → Standing h p b x s → KeepsLead x g → Raises h x start h'
    → Allowed p b x s (Some (recorded_of order g)) Expire (Raised start) h'
raise_on h p b x s order g start h' st k w =
    let after = some_of _ (after_raise h.registry w.epoch start (Done start)) w.after in
    let is : after_raise p.registry w.epoch start (Done start) ≡ Some after.0 = ap (λ (r : Registry). after_raise r w.epoch start (Done start)) st.partition_state.registry ∙ after.1 in
    let u = when_some (not (is_stale p.registry w.epoch) && nat_lt p.registry.start start && nat_le start p.registry.mark && (start == start)) (started p.registry start) after.0 is in
    let t = both (not (is_stale p.registry w.epoch) && nat_lt p.registry.start start) (nat_le start p.registry.mark) (both (not (is_stale p.registry w.epoch) && nat_lt p.registry.start start && nat_le start p.registry.mark) (start == start) u.0).0 in
    let v = both (not (is_stale p.registry w.epoch)) (nat_lt p.registry.start start) t.0 in
    let current : not (is_behind p (recorded_of order g)) ≡ true = rw (k.role ∙ w.role) v.0 in
    leaves h p (set_registry p after.0) b x s after.0 (Some (recorded_of order g)) Expire (Raised start) h' st
    (does p b (broker_of x) s (Some (recorded_of order g)) Expire (Raised start) (set_registry p (started p.registry start)) (lead_kept b x order g k)
    (when_true _ (set_registry p (started p.registry start)) (and_true _ _ current (and_true _ _ v.1 t.1))) ∙ ap (λ (r : Registry). Some (set_registry p r)) u.1)
    refl refl refl refl refl (raise_moves h.registry w.epoch start (Done start) after.0 after.1) after.2

pub expire_on_allowed : (h : SeenPartition) (p : State) (b : ℕ) (x : Node) (s : Replica) (order : Order) (g : StartSnapshot) (answer : Answer) (h' : SeenPartition) → Standing h p b x s
    → ExpireOnRow h x g answer h' → Allowed p b x s (Some (recorded_of order g)) Expire answer h'
expire_on_allowed h p b x s order g LostLead h' st w = loses h p b x s order g Expire h' st refl w
expire_on_allowed h p b x s order g Kept h' st w = goes h p b x s order g Expire Kept h' st refl refl w
expire_on_allowed h p b x s order g (StaleEpoch n) h' st w =
    let e = some_of _ (epoch_in g.role) w.0 in
    let reg = ap (λ (r : Registry). r.epoch) st.partition_state.registry in
    let behind : is_behind p (recorded_of order g) ≡ true = rw (e.1, lt_true e.0 p.registry.epoch (omega (arith, e.2, reg))) refl in
    goes h p b x s order g Expire (StaleEpoch n) h' st refl (when_true _ p (and_true _ _ behind (eq_same _ _ (epoch_same h p n st.partition_state w.1)))) w.2
expire_on_allowed h p b x s order g (Raised start) h' st w = raise_on h p b x s order g start h' st w.0 w.1
expire_on_allowed h p b x s order g MetaFault h' st w = goes h p b x s order g Expire MetaFault h' st refl refl w
expire_on_allowed h p b x s order g StoreFault h' st w = goes h p b x s order g Expire StoreFault h' st refl refl w
expire_on_allowed h p b x s order g (Deleted id) h' st w = goes h p b x s order g Expire (Deleted id) h' st refl refl w
expire_on_allowed h p b x s order g other h' st w = elim w [ ]

-- fetch

-- the tests of the offset, of a later turn
in_range : (h : SeenPartition) (p : State) (b : ℕ) (x : Node) (offset : ℕ) (why : Option Answer) → PartitionMatches h p → x.up ≡ true → IsInLog h x offset → empty (facts_of b (broker_of x)) offset ≡ why
    → first_of (out_of_range p.registry (facts_of b (broker_of x)) offset ∷ empty (facts_of b (broker_of x)) offset ∷ []) ≡ why
in_range h p b x offset why st up w is =
    let f = facts_of b (broker_of x) in
    skips (out_of_range p.registry f offset) (empty f offset ∷ []) why (in_range_of h p b x offset st up w) (last (empty f offset) is)
  where
    last : (test : Option Answer) → test ≡ why → first_of (test ∷ []) ≡ why
    last None is = is
    last (Some reason) is = is

-- a later turn of a fetch isn't refused
serving : (h : SeenPartition) (p : State) (b : ℕ) (x : Node) (order : Order) (g : StartSnapshot) (offset limit : ℕ) → PartitionMatches h p → ServesCommitted h x g offset
    → refusal_at p b (broker_of x) (Some (recorded_of order g)) (Fetch offset limit) ≡ None
serving h p b x order g offset limit st w =
    let f = facts_of b (broker_of x) in
    served b x order g (out_of_range p.registry f offset ∷ empty f offset ∷ []) None w.keeps
    (in_range h p b x offset None st w.keeps.up w.within (rw (le_false x.known_high_watermark offset w.below) refl))

pub fetch_on_allowed : (h : SeenPartition) (p : State) (b : ℕ) (x : Node) (s : Replica) (offset limit : ℕ) (order : Order) (g : StartSnapshot) (answer : Answer) (h' : SeenPartition) → Standing h p b x s
    → FetchOnRow h x offset limit g answer h' → Allowed p b x s (Some (recorded_of order g)) (Fetch offset limit) answer h'
fetch_on_allowed h p b x s offset limit order g Stopped h' st w =
    let f = facts_of b (broker_of x) in
    let tests = other_role f (since_of (recorded_of order g)) ∷ out_of_range p.registry f offset ∷ empty f offset ∷ [] in
    silent h p b x s (Some (recorded_of order g)) (Fetch offset limit) Stopped h' st
    (refuses p b (broker_of x) s (Some (recorded_of order g)) (Fetch offset limit) Stopped Stopped (halts b x order g tests w.0) refl) w.1
fetch_on_allowed h p b x s offset limit order g NotLeader h' st w =
    let f = facts_of b (broker_of x) in
    silent h p b x s (Some (recorded_of order g)) (Fetch offset limit) NotLeader h' st
    (refuses p b (broker_of x) s (Some (recorded_of order g)) (Fetch offset limit) NotLeader NotLeader (deposes b x order g (out_of_range p.registry f offset ∷ empty f offset ∷ []) w.0 w.1 w.2) refl) w.3
fetch_on_allowed h p b x s offset limit order g (OutOfRange start end) h' st w =
    let f = facts_of b (broker_of x) in
    let same : start ≡ p.registry.start = w.2 ∙ ap (λ (k : Registry). k.start) (sym st.partition_state.registry) in
    let why = OutOfRange p.registry.start (end_of x.log.batches) in
    silent h p b x s (Some (recorded_of order g)) (Fetch offset limit) (OutOfRange start end) h' st
    (refuses p b (broker_of x) s (Some (recorded_of order g)) (Fetch offset limit) (OutOfRange start end) why
    (served b x order g (out_of_range p.registry f offset ∷ empty f offset ∷ []) (Some why) w.0
    (fails (out_of_range p.registry f offset) (empty f offset ∷ []) why (not_in_range p b x offset start end w.0.up same w.3 w.1))) (and_true _ _ (eq_same _ _ same) (eq_same _ _ w.3))) w.4
fetch_on_allowed h p b x s offset limit order g Empty h' st w =
    let f = facts_of b (broker_of x) in
    silent h p b x s (Some (recorded_of order g)) (Fetch offset limit) Empty h' st
    (refuses p b (broker_of x) s (Some (recorded_of order g)) (Fetch offset limit) Empty Empty
    (served b x order g (out_of_range p.registry f offset ∷ empty f offset ∷ []) (Some Empty) w.0
    (in_range h p b x offset (Some Empty) st.partition_state w.0.up w.1 (rw (le_true x.known_high_watermark offset w.2) refl))) refl) w.3
fetch_on_allowed h p b x s offset limit order g (Run tier size stop bytes) h' st w =
    silent h p b x s (Some (recorded_of order g)) (Fetch offset limit) (Run tier size stop bytes) h' st
    (does p b (broker_of x) s (Some (recorded_of order g)) (Fetch offset limit) (Run tier size stop bytes) p (serving h p b x order g offset limit st.partition_state w.0)
    (when_true _ p (run_allowed x offset limit size stop bytes w.1))) w.2
fetch_on_allowed h p b x s offset limit order g MetaFault h' st w =
    silent h p b x s (Some (recorded_of order g)) (Fetch offset limit) MetaFault h' st
    (does p b (broker_of x) s (Some (recorded_of order g)) (Fetch offset limit) MetaFault p (serving h p b x order g offset limit st.partition_state w.0) refl) w.1
fetch_on_allowed h p b x s offset limit order g StoreFault h' st w =
    silent h p b x s (Some (recorded_of order g)) (Fetch offset limit) StoreFault h' st
    (does p b (broker_of x) s (Some (recorded_of order g)) (Fetch offset limit) StoreFault p (serving h p b x order g offset limit st.partition_state w.0) refl) w.1
fetch_on_allowed h p b x s offset limit order g (Damaged place at) h' st w =
    silent h p b x s (Some (recorded_of order g)) (Fetch offset limit) (Damaged place at) h' st
    (does p b (broker_of x) s (Some (recorded_of order g)) (Fetch offset limit) (Damaged place at) p (serving h p b x order g offset limit st.partition_state w.0) refl) w.1
fetch_on_allowed h p b x s offset limit order g other h' st w = elim w [ ]
