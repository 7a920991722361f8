-- The later turns of a join, the last of which restarts a follower's log, are the plain log's. What its log is seen as
-- then is the path of the epoch that it follows, up to the wanted point.
use Rattle.std.proofs.Common.{◌≡◌, ◌≢◌, ◌∙◌, sym, ap, subst, refl, ℕ, ◌<◌, ◌≤◌, ◌&&◌, List, slice_get, Some, Option, true, false, arith, inl, inr}
use Rattle.std.specs.Prelude.{is_some, option_map, nat_lt, IsSome}
use Rattle.std.proofs.lemmas.Bool.{cases_lt}
use mathlib.Core.List.{IsPrefix}
use Rattle.log_terms.specs.Line.{line_of}
use Rattle.log_terms.specs.Log.{end_of, up_to}
use Rattle.log_terms.proofs.Logs.{consecutive_prefix, nested, ends_below, up_to_is, up_to_prefix}
use Rattle.epoch_line.specs.Line.{IsLine}
use Rattle.registry.specs.declared.registry.Replica.{Replica}
use Rattle.registry.specs.declared.registry.Registry.{Registry}
use Rattle.plain_log.specs.declared.answer.Answer.{Answer}
use Rattle.plain_log.specs.declared.answer.Answer.TheVariants.{Stopped, StaleEpoch, Passed, BelowStart, MetaFault, StoreFault, Damaged, DiskFaultAt, Rebuilt}
use Rattle.plain_log.specs.declared.command.Command.TheVariants.{Join}
use Rattle.plain_log.specs.declared.command.Order.{Order}
use Rattle.plain_log.specs.declared.state.Broker.{Broker}
use Rattle.plain_log.specs.declared.state.State.{State}
use Rattle.plain_log.specs.declared.state.Role.{Role}
use Rattle.plain_log.specs.declared.state.Role.TheVariants.{Joined}
use Rattle.plain_log.specs.State.{path_of, put_broker, breaks, followed, joined}
use Rattle.plain_log.specs.Ends.{is_end}
use Rattle.plain_log.specs.RowsOfFollowers.{extended as extended_broker, was_passed, rebuilt as rebuilt_broker}
use Rattle.plain_log.specs.Safe.{RoleSafe, HasJoined, LogSafe}
use Rattle.plain_log.proofs.Ends.{log_prefix}
use Rattle.laws_partition.specs.declared.start_snapshot.StartSnapshot.{StartSnapshot}
use Rattle.laws_partition.specs.Seen.{Back, Node, SeenPartition}
use Rattle.laws_partition.specs.Partition.{broker_of, recorded_of, put_node}
use Rattle.laws_partition.specs.Central.{WereElected, RebuildMatches}
use Rattle.laws_partition.specs.RowsOfFollowers.{IsStale, GoesOn, IsAsCut, MayRebuild, JoinOnRow, rebuilt, unbuilt}
use Rattle.laws_partition.proofs.Lines.{cut_at_line}
use Rattle.laws_partition.proofs.BoolTests.{some_of, and_true, not_false, when_true, eq_same, lt_true, lt_false, le_false}
use Rattle.laws_partition.proofs.NodeLaw.{IsWhole, joined_up, none_back, node_rebuilt, node_unbuilt}
use Rattle.laws_partition.proofs.Standing.{Standing, Allowed, silent, put, broker_at, wider_self, keeps_self, line_taken}
use Rattle.laws_partition.proofs.FollowRows.{IsNow, now}
use Rattle.laws_partition.proofs.Refusing.{refuses, does, stale_some, follows_on, follows_stale, follows_halted}
use Rattle.plain_log.specs.Rows.{effect}
use Rattle.laws_partition.proofs.FollowOnRows.{goes_true, goes_false}

-- what holds of a join that has begun
pub record Rebuilding (p : State) (x : Node) (order : Order) (g : StartSnapshot) : Type 0 where
  pub run : RebuildMatches p g
  pub recorded : HasJoined p.registry.epoch (recorded_of order g) (broker_of x)
  pub up : g.stops ≡ x.stops → x.up ≡ true

-- what the log is restarted as: the path up to the wanted point, which the leader has
pub record OnWay (h : SeenPartition) (p : State) (b : ℕ) (x y : Node) (g : StartSnapshot) : Type 0 where
  pub epoch : ℕ
  pub role : x.role ≡ Joined epoch
  pub now_is : IsNow h p b epoch
  pub path : List (List ℕ)
  pub path_is : path_of p.paths epoch ≡ Some path
  pub same : up_to g.wanted path ≡ up_to g.wanted y.log.batches
  pub whole : IsWhole x (up_to g.wanted y.log.batches) g.wanted
  pub safe : LogSafe p.paths (up_to g.wanted y.log.batches)
  pub line : g.line ≡ line_of (up_to g.wanted y.log.batches)

not_stale : (h : SeenPartition) (x : Node) (g : StartSnapshot) → GoesOn h x g → (e : ℕ) → g.role ≡ Joined e → h.registry.epoch ≤ e
not_stale h x g on e is = elim (cases_lt e h.registry.epoch) [
  | inl less ↦ absurd (on.1 (subst (λ (o : Option ℕ). IsStale h o) (sym (ap followed is)) less))
  | inr more ↦ more
]

-- the follower has joined still
still_joined : (h : SeenPartition) (p : State) (b : ℕ) (x : Node) (s : Replica) (order : Order) (g : StartSnapshot) → Standing h p b x s → (k : Rebuilding p x order g) → GoesOn h x g → x.role ≡ Joined k.run.epoch
still_joined h p b x s order g st k on =
    let e = k.run.epoch in
    let fresh : h.registry.epoch ≤ e = not_stale h x g on e k.run.role in
    let low : p.registry.epoch ≤ e = omega (arith, fresh, ap (λ (r : Registry). r.epoch) st.partition_state.registry) in
    let one : k.recorded.0 ≡ e = same_epoch k.recorded.0 e (sym k.recorded.1 ∙ k.run.role) in
    k.recorded.2 on.0 (omega (arith, low, one)) ∙ k.run.role
  where
    same_epoch : (a e : ℕ) → Joined a ≡ Joined e → a ≡ e
    same_epoch a e is = cc (is)

pub on_way : (h : SeenPartition) (p : State) (b : ℕ) (x y : Node) (s : Replica) (order : Order) (g : StartSnapshot) → Standing h p b x s → Rebuilding p x order g → GoesOn h x g → g.end ≡ end_of x.log.batches
    → slice_get h.nodes h.registry.leader.0 ≡ Some y → OnWay h p b x y g
on_way h p b x y s order g st k on end at =
    let run = k.run in
    let e = run.epoch in
    let reg = ap (λ (r : Registry). r.epoch) st.partition_state.registry in
    let fresh : h.registry.epoch ≤ e = not_stale h x g on e run.role in
    let role : x.role ≡ Joined e = still_joined h p b x s order g st k on in
    let is = now h p b x s e st (ap followed role) fresh in
    let safe = (st.safe.brokers b (broker_of x) (broker_at h p b x st.partition_state st.at)).role in
    let has = (subst (λ (r : Role). RoleSafe p.paths p.registry.epoch r x.log.batches) role safe).1 in
    let mine : IsPrefix x.log.batches run.path = (let same : has.0 ≡ run.path = cc (has.1, run.path_is) in subst (λ (w : List (List ℕ)). IsPrefix x.log.batches w) same has.2) in
    let log = (st.safe.paths e run.path run.path_is).log_safe in
    -- the leader's log begins the path, and has what is wanted
    let there : is_some (path_of p.paths h.registry.epoch) ≡ true = subst (λ (n : ℕ). is_some (path_of p.paths n) ≡ true) is.held (rw run.path_is refl) in
    let leads = (st.lines.leader y at there).5 in
    let theirs : IsPrefix y.log.batches run.path =
    (let same : leads.0 ≡ run.path = cc (leads.1, ap (path_of p.paths) (sym is.held), run.path_is) in subst (λ (w : List (List ℕ)). IsPrefix y.log.batches w) same leads.2) in
    let sound = (st.lines.each h.registry.leader.0 y at).sound in
    let plain_at : slice_get p.brokers p.registry.leader.0 ≡ Some (broker_of y) =
    ap (λ (r : Registry). slice_get p.brokers r.leader.0) st.partition_state.registry ∙ broker_at h p h.registry.leader.0 y st.partition_state at in
    let held : g.wanted ≤ y.flushed_end = run.leader (sym is.plain) (broker_of y) plain_at in
    let high = ends_below y.flushed_end y.log.batches sound.log.consecutive sound.flushed_end in
    let front = run.ends.0 in
    let ends : end_of front ≡ g.wanted = run.ends.2 in
    let inner : IsPrefix front y.log.batches = nested 0 front y.log.batches run.path log.consecutive run.ends.1 theirs (omega (arith, ends, held, high)) in
    let of_path : up_to g.wanted run.path ≡ front = up_to_is 0 g.wanted front run.path log.consecutive run.ends.1 ends in
    let of_leader : up_to g.wanted y.log.batches ≡ front = up_to_is 0 g.wanted front y.log.batches sound.log.consecutive inner ends in
    let begins : IsPrefix x.log.batches front = nested 0 x.log.batches front run.path log.consecutive mine run.ends.1 (omega (arith, ends, run.above, end)) in
    let line = cut_at_line y.log.line y.log.batches g.wanted sound.log.consecutive sound.log.line_is sound.log.rises in
    record {
      epoch = e;
      role = role;
      now_is = is;
      path = run.path;
      path_is = run.path_is;
      same = of_path ∙ sym of_leader;
      whole = record {
        consecutive = consecutive_prefix 0 (up_to g.wanted y.log.batches) y.log.batches (up_to_prefix g.wanted y.log.batches) sound.log.consecutive;
        begins = subst (λ (w : List (List ℕ)). IsPrefix x.log.batches w) (sym of_leader) begins;
        ends = ap end_of of_leader ∙ ends;
        above = omega (arith, run.above, end);
        rises = subst IsLine line.0 line.1;
        small = omega (arith, held, high, sound.log.small);
      };
      safe = subst (LogSafe p.paths) (sym of_leader) (log_prefix p.paths front run.path run.ends.1 log);
      line = run.line ∙ ap line_of (of_path ∙ sym of_leader);
    }

-- the log start offset hasn't reached the wanted point since
not_passed : (h : SeenPartition) (p : State) (x : Node) (order : Order) (g : StartSnapshot) (n : ℕ) (s : Replica) (b : ℕ) → Standing h p b x s → ((g.start < g.wanted) × (g.wanted ≤ h.registry.start) → ⊥) → n ≡ g.wanted
    → was_passed p (recorded_of order g) n ≡ false
not_passed h p x order g n s b st never is = elim (cases_lt g.start n) [
  | inr more ↦ rw (lt_false g.start n more) refl
  | inl less ↦ elim (cases_lt p.registry.start n) [
    | inl below ↦ rw (lt_true g.start n less, le_false n p.registry.start below) refl
    | inr past ↦ absurd (never (omega (arith, less, is), omega (arith, past, is, ap (λ (r : Registry). r.start) st.partition_state.registry)))
  ]
]

-- the plain log restarts the log
rebuilds : (h : SeenPartition) (p : State) (b : ℕ) (x y : Node) (s : Replica) (order : Order) (g : StartSnapshot) (n : ℕ) → Standing h p b x s → (o : OnWay h p b x y g) → MayRebuild h x g → n ≡ g.wanted
    → rebuilt_broker p (broker_of x) (recorded_of order g) n ≡ Some (record (broker_of x) { log = up_to n y.log.batches })
rebuilds h p b x y s order g n st o may is =
    let bx = broker_of x in
    let z : Broker = record bx { log = up_to n o.path } in
    let path_same : up_to n o.path ≡ up_to n y.log.batches = subst (λ (m : ℕ). up_to m o.path ≡ up_to m y.log.batches) (sym is) o.same in
    let ends : end_of (up_to n o.path) ≡ n = ap end_of path_same ∙ (ap (λ (m : ℕ). end_of (up_to m y.log.batches)) is ∙ (o.whole.ends ∙ sym is)) in
    let test : (is_end n o.path && nat_lt (end_of x.log.batches) n) ≡ true = and_true _ _ (eq_same _ _ ends) (lt_true (end_of x.log.batches) n (omega (arith, is, o.whole.above))) in
    let to : extended_broker p bx n ≡ Some z = rw (ap followed o.role, o.path_is) (when_true _ z test) in
    let goes = goes_true x order g may.1.0 in
    let passed = not_passed h p x order g n s b st may.2 is in
    rw to (when_true _ z (and_true _ _ goes (not_false _ passed)) ∙ ap (λ (w : List (List ℕ)). Some (record bx { log = w })) path_same)

-- it is restarted
rebuild_allowed : (h : SeenPartition) (p : State) (b : ℕ) (x y : Node) (s : Replica) (order : Order) (g : StartSnapshot) (n : ℕ) (h' : SeenPartition) → Standing h p b x s → x.up ≡ true → OnWay h p b x y g → MayRebuild h x g → n ≡ g.wanted
    → h' ≡ put_node h b (rebuilt x (up_to n y.log.batches) n) → Allowed p b x s (Some (recorded_of order g)) Join (Rebuilt n) h'
rebuild_allowed h p b x y s order g n h' st on o may is same =
    let bx = broker_of x in
    let whole = up_to n y.log.batches in
    let z : Broker = record bx { log = whole } in
    let to = rebuilds h p b x y s order g n st o may is in
    let line = st.lines.each b x st.at in
    let w : IsWhole x whole n = subst (λ (m : ℕ). IsWhole x (up_to m y.log.batches) m) (sym is) o.whole in
    let safe : LogSafe p.paths whole = subst (λ (m : ℕ). LogSafe p.paths (up_to m y.log.batches)) (sym is) o.safe in
    let j : IsSome (joined x.role) = subst (λ (r : Role). IsSome (joined r)) (sym o.role) refl in
    let up = joined_up x line.sound j in
    let taken = line_taken p.paths p.broken (line_of whole) whole refl safe in
    put h p (put_broker p b (record z { flushed_end = n })) b x (rebuilt x whole n) s (Some (recorded_of order g)) Join (Rebuilt n) h' st
    (does p b bx s (Some (recorded_of order g)) Join (Rebuilt n) (put_broker p b (record z { flushed_end = n })) (follows_on h p b x order g st.partition_state on may.0)
    (ap (option_map (λ (v : Broker). put_broker p b (record v { flushed_end = n }))) to)) (record {
      registry = refl;
      brokers = refl;
      actors = refl;
      paths = wider_self p.paths;
      broken = keeps_self p.broken;
      keys = λ other has. has;
      sound = node_rebuilt x whole n line.sound up j w;
      paths_are = λ _. taken;
      saved_are = λ _. taken;
      back_are = λ _ back b. absurd (none_back x back line.sound up b);
      joined = λ f j. refl;
      leader = λ it. absurd (o.now_is.other it);
      followers = λ f. o.now_is.other;
      steady = λ it. absurd (o.now_is.other it);
    }) same

-- that failed
unbuild_allowed : (h : SeenPartition) (p : State) (b : ℕ) (x y : Node) (s : Replica) (order : Order) (g : StartSnapshot) (n : ℕ) (h' : SeenPartition) → Standing h p b x s → x.up ≡ true → OnWay h p b x y g → MayRebuild h x g → n ≡ g.wanted
    → h' ≡ put_node h b (unbuilt x (up_to n y.log.batches) n) → Allowed p b x s (Some (recorded_of order g)) Join (DiskFaultAt n) h'
unbuild_allowed h p b x y s order g n h' st on o may is same =
    let bx = broker_of x in
    let whole = up_to n y.log.batches in
    let z : Broker = record bx { log = whole } in
    let to = rebuilds h p b x y s order g n st o may is in
    let line = st.lines.each b x st.at in
    let w : IsWhole x whole n = subst (λ (m : ℕ). IsWhole x (up_to m y.log.batches) m) (sym is) o.whole in
    let safe : LogSafe p.paths whole = subst (λ (m : ℕ). LogSafe p.paths (up_to m y.log.batches)) (sym is) o.safe in
    let taken = line_taken p.paths p.broken (line_of whole) whole refl safe in
    put h p (breaks p b z) b x (unbuilt x whole n) s (Some (recorded_of order g)) Join (DiskFaultAt n) h' st
    (does p b bx s (Some (recorded_of order g)) Join (DiskFaultAt n) (breaks p b z) (follows_on h p b x order g st.partition_state on may.0) (ap (option_map (breaks p b)) to)) (record {
      registry = refl;
      brokers = refl;
      actors = refl;
      paths = wider_self p.paths;
      broken = keeps_self p.broken;
      keys = λ other has. has;
      sound = node_unbuilt x whole n line.sound w;
      paths_are = λ _. taken;
      saved_are = λ _. line.saved_are;
      back_are = λ _ back b. (let one : (n, line_of whole, n) ≡ back = cc (b) in subst (λ (k : Back). WereElected p.paths p.broken k.1) one taken);
      joined = λ f j. absurd cc;
      leader = λ it. absurd (o.now_is.other it);
      followers = λ f. o.now_is.other;
      steady = λ it. absurd (o.now_is.other it);
    }) same

-- where the log was cut, something else is by now
differs : (h : SeenPartition) (p : State) (b : ℕ) (x : Node) (s : Replica) (order : Order) (g : StartSnapshot) (n : ℕ) → Standing h p b x s → Rebuilding p x order g → GoesOn h x g → n ≡ end_of x.log.batches
    → (IsAsCut x g → ⊥) → n ≢ g.end
differs h p b x s order g n st k on is never = λ e. never (sym e ∙ is, subst (λ (r : Role). IsSome (joined r)) (sym (still_joined h p b x s order g st k on)) refl)

-- an answer that changes nothing
join_waits : (h : SeenPartition) (p : State) (b : ℕ) (x : Node) (s : Replica) (order : Order) (g : StartSnapshot) (answer : Answer) (h' : SeenPartition) → Standing h p b x s → x.up ≡ true → GoesOn h x g
    → effect p b (broker_of x) s (Some (recorded_of order g)) Join answer ≡ Some p → h' ≡ h → Allowed p b x s (Some (recorded_of order g)) Join answer h'
join_waits h p b x s order g answer h' st up on is same =
    silent h p b x s (Some (recorded_of order g)) Join answer h' st
    (does p b (broker_of x) s (Some (recorded_of order g)) Join answer p (follows_on h p b x order g st.partition_state up on) is) same

pub join_on_allowed : (h : SeenPartition) (p : State) (b : ℕ) (x : Node) (s : Replica) (order : Order) (g : StartSnapshot) (answer : Answer) (h' : SeenPartition) → Standing h p b x s → Rebuilding p x order g → JoinOnRow h b x g answer h'
    → Allowed p b x s (Some (recorded_of order g)) Join answer h'
join_on_allowed h p b x s order g Stopped h' st k w =
    silent h p b x s (Some (recorded_of order g)) Join Stopped h' st (refuses p b (broker_of x) s (Some (recorded_of order g)) Join Stopped Stopped (follows_halted p b x order g w.0) refl) w.1
join_on_allowed h p b x s order g (StaleEpoch n) h' st k w =
    let t = stale_some h p (followed g.role) n st.partition_state w.1 w.2 in
    silent h p b x s (Some (recorded_of order g)) Join (StaleEpoch n) h' st
    (refuses p b (broker_of x) s (Some (recorded_of order g)) Join (StaleEpoch n) t.0 (follows_stale h p b x order g t.0 (k.up w.0) w.0 t.1) t.2) w.3
join_on_allowed h p b x s order g (Passed n) h' st k w =
    join_waits h p b x s order g (Passed n) h' st (k.up w.0.0) w.0 (when_true _ p (goes_false x order g n w.1 (differs h p b x s order g n st k w.0 w.1 w.2))) w.3
join_on_allowed h p b x s order g (BelowStart start) h' st k w =
    let same : start ≡ p.registry.start = w.2 ∙ ap (λ (r : Registry). r.start) (sym st.partition_state.registry) in
    join_waits h p b x s order g (BelowStart start) h' st (k.up w.0.0) w.0
    (when_true _ p (and_true _ _ (and_true _ _ (goes_true x order g w.1.0) (eq_same _ _ same)) (lt_true g.start start (omega (arith, w.3, w.4))))) w.5
join_on_allowed h p b x s order g MetaFault h' st k w = join_waits h p b x s order g MetaFault h' st (k.up w.0.0) w.0 (when_true _ p (goes_true x order g w.1.0)) w.2
join_on_allowed h p b x s order g StoreFault h' st k w = join_waits h p b x s order g StoreFault h' st (k.up w.0.0) w.0 (when_true _ p (goes_true x order g w.1.0)) w.2
join_on_allowed h p b x s order g (Damaged place at) h' st k w = join_waits h p b x s order g (Damaged place at) h' st (k.up w.0.0) w.0 (when_true _ p (goes_true x order g w.1.0)) w.2
join_on_allowed h p b x s order g (DiskFaultAt n) h' st k w =
    let y = some_of _ (slice_get h.nodes h.registry.leader.0) w.2 in
    unbuild_allowed h p b x y.0 s order g n h' st (k.up w.0.0.0) (on_way h p b x y.0 s order g st k w.0.0 w.0.1.0 y.1) w.0 w.1 y.2
join_on_allowed h p b x s order g (Rebuilt n) h' st k w =
    let y = some_of _ (slice_get h.nodes h.registry.leader.0) w.2 in
    rebuild_allowed h p b x y.0 s order g n h' st (k.up w.0.0.0) (on_way h p b x y.0 s order g st k w.0.0 w.0.1.0 y.1) w.0 w.1 y.2
join_on_allowed h p b x s order g other h' st k w = elim w [ ]
