-- The row of a follow's second turn is the plain log's.
use Rattle.std.proofs.Common.{◌≡◌, ◌≢◌, ◌⊎◌, inl, inr, ◌∙◌, sym, ap, subst, refl, ℕ, ◌+◌, ◌^◌, ◌<◌, ◌≤◌, nat_lt, List, [], ◌∷◌, ◌++◌, length, drop, slice_set, Some, None, Option, true, ◌&&◌, arith, append_assoc, length-append, not, ◌==◌}
use Rattle.std.specs.Prelude.{option_map, IsSome}
use Rattle.std.proofs.lemmas.Bool.{cases_lt}
use Rattle.std.proofs.lemmas.Bool.Decides.{nat_tests}
use mathlib.Core.List.{IsPrefix}
use Rattle.log_terms.specs.Batch.{epoch_of, last_of}
use Rattle.log_terms.specs.Line.{line_of}
use Rattle.log_terms.specs.Log.{IsConsecutive, end_from, end_of, joined as joined_bytes, up_to}
use Rattle.log_terms.proofs.Lists.{prefix_trans}
use Rattle.log_terms.proofs.Logs.{end_above, end_append, consecutive_prefix, up_to_is, one_end}
use Rattle.epoch_line.specs.Line.{last_epoch}
use Rattle.registry.specs.declared.registry.Replica.{Replica}
use Rattle.registry.specs.declared.registry.Registry.{Registry}
use Rattle.registry.specs.Registry.{epoch_limit}
use Rattle.plain_log.specs.declared.answer.Answer.{Answer}
use Rattle.plain_log.specs.declared.answer.Answer.TheVariants.{StaleEpoch, Stopped, Passed, TooManySegments, DiskFault, Copied}
use Rattle.plain_log.specs.declared.command.Command.TheVariants.{Follow}
use Rattle.plain_log.specs.declared.command.Order.{Order}
use Rattle.plain_log.specs.declared.state.State.{State}
use Rattle.plain_log.specs.declared.state.Broker.{Broker}
use Rattle.plain_log.specs.declared.state.Role.{Role}
use Rattle.plain_log.specs.declared.state.Role.TheVariants.{Joined}
use Rattle.plain_log.specs.State.{path_of, put_broker, breaks, followed, joined}
use Rattle.plain_log.specs.Ends.{is_end}
use Rattle.plain_log.specs.Fetch.{is_within}
use Rattle.plain_log.specs.RowsOfFollowers.{ends_as, extended as extended_broker, copied}
use Rattle.plain_log.specs.Safe.{RoleSafe, HasJoined}
use Rattle.plain_log.proofs.Ends.{log_prefix}
use Rattle.plain_log.proofs.Grows.{log_rises}
use Rattle.laws_partition.specs.declared.start_snapshot.StartSnapshot.{StartSnapshot}
use Rattle.laws_partition.specs.Seen.{Node, SeenPartition}
use Rattle.laws_partition.specs.Partition.{broker_of, recorded_of}
use Rattle.laws_partition.specs.Log.{MayTakeEpoch, epoch_in}
use Rattle.laws_partition.specs.Central.{RunStands}
use Rattle.laws_partition.specs.RowsOfFollowers.{IsStale, CanExtend, GoesOn, extended, Extends, FollowOnRow}
use Rattle.laws_partition.proofs.Lines.{consecutive_back, line_last}
use Rattle.laws_partition.proofs.Meets.{last_batch}
use Rattle.laws_partition.proofs.BoolTests.{some_of, and_true, not_false, when_true, eq_same, eq_differs, le_true, lt_true}
use Rattle.laws_partition.proofs.Parts.{joined_append}
use Rattle.laws_partition.proofs.NodeLaw.{node_extended}
use Rattle.laws_partition.proofs.Standing.{Standing, Allowed, silent, put, broker_at, wider_self, keeps_self, line_taken}
use Rattle.laws_partition.proofs.BreakRows.{flushed_end_breaks}
use Rattle.laws_partition.proofs.FollowRows.{IsNow, now}
use Rattle.laws_partition.proofs.Refusing.{refuses, does, stale_some, follows_on, follows_stale, follows_halted}

-- what holds of a follow that has begun
pub record Going (p : State) (x : Node) (limit : ℕ) (order : Order) (g : StartSnapshot) : Type 0 where
  pub run : RunStands p.paths limit g
  pub recorded : HasJoined p.registry.epoch (recorded_of order g) (broker_of x)
  pub up : g.stops ≡ x.stops → x.up ≡ true

-- a run has a first batch
first_of : (limit : ℕ) (batches : List (List ℕ)) → is_within limit batches ≡ true → (b : List ℕ) × (more : List (List ℕ)) × (batches ≡ b ∷ more)
first_of limit [] w = absurd cc
first_of limit (b ∷ more) w = (b, more, refl)

-- the follower's log and its path, where the follow continues
record OnPath (h : SeenPartition) (p : State) (b : ℕ) (x : Node) (g : StartSnapshot) : Type 0 where
  epoch : ℕ
  role : x.role ≡ Joined epoch
  now_is : IsNow h p b epoch
  path : List (List ℕ)
  path_is : path_of p.paths epoch ≡ Some path
  begins : IsPrefix (x.log.batches ++ g.batches) path

on_path : (h : SeenPartition) (p : State) (b : ℕ) (x : Node) (s : Replica) (limit : ℕ) (order : Order) (g : StartSnapshot) → Standing h p b x s → Going p x limit order g → GoesOn h x g
    → g.end ≡ end_of x.log.batches → OnPath h p b x g
on_path h p b x s limit order g st k on end =
    let run = k.run in
    let e = run.epoch in
    let fresh : h.registry.epoch ≤ e = not_stale e run.role in
    let low : p.registry.epoch ≤ e = omega (arith, fresh, ap (λ (r : Registry). r.epoch) st.partition_state.registry) in
    let one : k.recorded.0 ≡ e = same_epoch k.recorded.0 e (sym k.recorded.1 ∙ run.role) in
    let role : x.role ≡ Joined e = k.recorded.2 on.0 (omega (arith, low, one)) ∙ run.role in
    let is = now h p b x s e st (ap followed role) fresh in
    let safe = (st.safe.brokers b (broker_of x) (broker_at h p b x st.partition_state st.at)).role in
    let has = (subst (λ (r : Role). RoleSafe p.paths p.registry.epoch r x.log.batches) role safe).1 in
    let same : has.0 ≡ run.path = cc (has.1, run.path_is) in
    let mine : IsPrefix x.log.batches run.path = subst (λ (w : List (List ℕ)). IsPrefix x.log.batches w) same has.2 in
    let c = (st.safe.paths e run.path run.path_is).log_safe.consecutive in
    let front : run.front ≡ x.log.batches =
    one_end 0 run.front x.log.batches run.path c (prefix_trans run.front (run.front ++ g.batches) run.path (g.batches, refl) run.begins) mine (run.ends ∙ end) in
    record {
      epoch = e;
      role = role;
      now_is = is;
      path = run.path;
      path_is = run.path_is;
      begins = subst (λ (w : List (List ℕ)). IsPrefix (w ++ g.batches) run.path) front run.begins;
    }
  where
    same_epoch : (a e : ℕ) → Joined a ≡ Joined e → a ≡ e
    same_epoch a e is = cc (is)

    not_stale : (e : ℕ) → g.role ≡ Joined e → h.registry.epoch ≤ e
    not_stale e is = elim (cases_lt e h.registry.epoch) [
      | inl less ↦ absurd (on.1 (subst (λ (o : Option ℕ). IsStale h o) (sym (ap followed is)) less))
      | inr more ↦ more
    ]

-- the epochs of what follows aren't below those of the log
may_take : (h : SeenPartition) (p : State) (b : ℕ) (x : Node) (s : Replica) (first : List ℕ) (more : List (List ℕ)) (e : ℕ) (path : List (List ℕ)) → Standing h p b x s → path_of p.paths e ≡ Some path
    → IsPrefix (x.log.batches ++ first ∷ more) path → x.log.line ≡ line_of x.log.batches → MayTakeEpoch x.log.line (epoch_of first)
may_take h p b x s first more e path st path_is begins line = λ last is. go last (ap last_epoch (sym line) ∙ is) (last_batch x.log.batches)
  where
    next : (front : List (List ℕ)) (v : List ℕ) → x.log.batches ≡ front ++ v ∷ [] → IsPrefix ((front ++ v ∷ []) ++ first ∷ []) path
    next front v is =
        let all : IsPrefix (x.log.batches ++ first ∷ []) path =
        (more ++ begins.0, append_assoc (x.log.batches) (first ∷ []) (more ++ begins.0) ∙ (sym (append_assoc x.log.batches (first ∷ more) begins.0) ∙ begins.1)) in
        subst (λ (w : List (List ℕ)). IsPrefix (w ++ first ∷ []) path) is all

    go : (last : ℕ) → last_epoch (line_of x.log.batches) ≡ Some last → (x.log.batches ≡ []) ⊎ ((front : List (List ℕ)) × (v : List ℕ) × (x.log.batches ≡ front ++ v ∷ [])) → last ≤ epoch_of first
    go last is (inl none) = absurd (let no : ◌≡◌ {A = Option ℕ} None (Some last) = ap (λ (w : List (List ℕ)). last_epoch (line_of w)) (sym none) ∙ is in cc)
    go last is (inr k) =
        let at : Some (epoch_of k.1) ≡ Some last = sym (ap (λ (w : List (List ℕ)). last_epoch (line_of w)) k.2 ∙ line_last k.0 k.1) ∙ is in
        let same : epoch_of k.1 ≡ last = cc (at) in
        let rises = log_rises p path k.0 k.1 first st.safe (st.safe.paths e path path_is).log_safe (next k.0 k.1 k.2) in
        omega (arith, same, rises)

-- a log that ends as it was recorded can take the run
can_extend : (h : SeenPartition) (p : State) (b : ℕ) (x : Node) (s : Replica) (limit : ℕ) (order : Order) (g : StartSnapshot) → Standing h p b x s → Going p x limit order g → GoesOn h x g
    → g.end ≡ end_of x.log.batches → CanExtend x g
can_extend h p b x s limit order g st k on end =
    let o = on_path h p b x s limit order g st k on end in
    let f = first_of limit g.batches k.run.within in
    let log = (st.safe.paths o.epoch o.path o.path_is).log_safe in
    let begins : IsPrefix (x.log.batches ++ f.0 ∷ f.1) o.path = subst (λ (w : List (List ℕ)). IsPrefix (x.log.batches ++ w) o.path) f.2 o.begins in
    let line = (st.lines.each b x st.at).joined o.epoch o.role in
    let has = log.matching x.log.batches f.0 (one_more x.log.batches f.0 f.1 o.path begins) in
    let low = (st.safe.paths (epoch_of f.0) has.0 has.1).below in
    record {
      end = end;
      joined = subst (λ (r : Role). IsSome (joined r)) (sym o.role) refl;
      are = k.run.are;
      epoch = epoch_of f.0;
      first = ap epoch_in f.2;
      may = may_take h p b x s f.0 f.1 o.epoch o.path st o.path_is begins line;
      follow = subst (λ (n : ℕ). IsConsecutive n g.batches) (sym end) (consecutive_back 0 x.log.batches g.batches (consecutive_prefix 0 (x.log.batches ++ g.batches) o.path o.begins log.consecutive));
      same = k.run.epochs;
      fits = small (epoch_of f.0) p.registry.epoch epoch_limit low st.safe.marks.epoch refl;
      small = k.run.small;
    }
  where
    one_more : (xs : List (List ℕ)) (v : List ℕ) (ys path : List (List ℕ)) → IsPrefix (xs ++ v ∷ ys) path → IsPrefix (xs ++ v ∷ []) path
    one_more xs v ys path q = (ys ++ q.0, append_assoc xs (v ∷ []) (ys ++ q.0) ∙ (sym (append_assoc xs (v ∷ ys) q.0) ∙ q.1))

    small : (a b limit : ℕ) → a ≤ b → b ≤ limit → limit ≡ 2147483647 → a < 2 ^ 31
    small a b limit le low is = omega (arith, le, low, is)

drop_append : (xs ys : List (List ℕ)) → drop (length xs) (xs ++ ys) ≡ ys
drop_append [] ys = refl
drop_append (x ∷ xs) ys = drop_append xs ys

-- batches rise
rises : (n : ℕ) (batches : List (List ℕ)) → 0 < length batches → IsConsecutive n batches → n < end_from n batches
rises n [] some c = absurd (omega (arith, some))
rises n (b ∷ more) some c = let h = end_above (last_of b + 1) more c.1 in omega (arith, h, c.0)

-- the first batches of what fits a limit fit it
within_front : (limit : ℕ) (front rest : List (List ℕ)) → 0 < length front → is_within limit (front ++ rest) ≡ true → is_within limit front ≡ true
within_front limit [] rest some w = absurd (omega (arith, some))
within_front limit (b ∷ []) rest some w = refl
within_front limit (b ∷ c ∷ more) rest some w =
    let front = b ∷ c ∷ more in
    let size : length (joined_bytes (front ++ rest)) ≡ length (joined_bytes front) + length (joined_bytes rest) =
    ap length (joined_append front rest) ∙ length-append (joined_bytes front) (joined_bytes rest) in
    let all : length (joined_bytes (front ++ rest)) ≤ limit = grind (arith, nat_tests, w) in
    le_true (length (joined_bytes front)) limit (omega (arith, size, all))

pub goes_true : (x : Node) (order : Order) (g : StartSnapshot) → g.end ≡ end_of x.log.batches → ends_as (broker_of x) (recorded_of order g) ≡ true
goes_true x order g end = eq_same (end_of x.log.batches) g.end (sym end)

-- one that ends otherwise
pub goes_false : (x : Node) (order : Order) (g : StartSnapshot) (n : ℕ) → n ≡ end_of x.log.batches → n ≢ g.end → (not (ends_as (broker_of x) (recorded_of order g)) && (n == end_of x.log.batches)) ≡ true
goes_false x order g n is differs =
    and_true _ _ (not_false _ (eq_differs (end_of x.log.batches) g.end (λ e. differs (is ∙ e)))) (eq_same n (end_of x.log.batches) is)

copy_on : (h : SeenPartition) (p : State) (b : ℕ) (x : Node) (s : Replica) (limit : ℕ) (order : Order) (g : StartSnapshot) (n e : ℕ) (h' : SeenPartition) → Standing h p b x s → Going p x limit order g
    → GoesOn h x g → CanExtend x g → epoch_in g.batches ≡ Some e → Extends h b x g n e h' → Allowed p b x s (Some (recorded_of order g)) (Follow limit) (Copied n) h'
copy_on h p b x s limit order g n e h' st k on can first w =
    let o = on_path h p b x s limit order g st k on can.end in
    let bx = broker_of x in
    let more = x.log.batches ++ w.front in
    let log = (st.safe.paths o.epoch o.path o.path_is).log_safe in
    let all : IsPrefix (x.log.batches ++ (w.front ++ w.rest)) o.path = subst (λ (run : List (List ℕ)). IsPrefix (x.log.batches ++ run) o.path) w.parts o.begins in
    let begins : IsPrefix more o.path = prefix_trans more (x.log.batches ++ (w.front ++ w.rest)) o.path (w.rest, append_assoc x.log.batches w.front w.rest) all in
    let end : end_of more ≡ n = end_append 0 x.log.batches w.front ∙ (ap (λ (k : ℕ). end_from k w.front) (sym can.end) ∙ sym w.end) in
    let up : up_to n o.path ≡ more = up_to_is 0 n more o.path log.consecutive begins end in
    let z : Broker = record bx { log = up_to n o.path } in
    let follow : IsConsecutive g.end w.front = consecutive_prefix g.end w.front (w.front ++ w.rest) (w.rest, refl) (subst (λ (run : List (List ℕ)). IsConsecutive g.end run) w.parts can.follow) in
    let above = rises g.end w.front w.some follow in
    let ends : is_end n o.path ≡ true = eq_same _ _ (ap end_of up ∙ end) in
    let test : (is_end n o.path && nat_lt (end_of x.log.batches) n) ≡ true = and_true _ _ ends (lt_true (end_of x.log.batches) n (omega (arith, can.end, w.end, above))) in
    let to : extended_broker p bx n ≡ Some z = rw (ap followed o.role, o.path_is) (when_true _ z test) in
    let fits : is_within limit w.front ≡ true = within_front limit w.front w.rest w.some (ap (is_within limit) (sym w.parts) ∙ k.run.within) in
    let within : is_within limit (drop (length x.log.batches) (up_to n o.path)) ≡ true =
    ap (λ (w : List (List ℕ)). is_within limit (drop (length x.log.batches) w)) up ∙ (ap (is_within limit) (drop_append x.log.batches w.front) ∙ fits) in
    let is : copied p bx (recorded_of order g) limit n ≡ Some z = rw to (when_true _ z (and_true _ _ (goes_true x order g can.end) within)) in
    let line = st.lines.each b x st.at in
    let node = node_extended x g w.front w.rest e line.sound can first w.parts w.some in
    put h p (put_broker p b z) b x (extended x w.front e) s (Some (recorded_of order g)) (Follow limit) (Copied n) h' st
    (does p b bx s (Some (recorded_of order g)) (Follow limit) (Copied n) (put_broker p b z) (follows_on h p b x order g st.partition_state (k.up on.0) on) (ap (option_map (put_broker p b)) is)) (record {
      registry = refl;
      brokers = ap (λ (w : List (List ℕ)). slice_set p.brokers b (record bx { log = w })) up;
      actors = refl;
      paths = wider_self p.paths;
      broken = keeps_self p.broken;
      keys = λ other has. has;
      sound = node.0;
      paths_are = λ safe. line_taken p.paths p.broken (extended x w.front e).log.line more node.1 (log_prefix p.paths more o.path begins log);
      saved_are = λ safe. line.saved_are;
      back_are = λ safe. line.back_are;
      joined = λ f j. node.1;
      leader = λ it. absurd (o.now_is.other it);
      followers = λ f. o.now_is.other;
      steady = λ it. absurd (o.now_is.other it);
    }) w.after

pub follow_on_allowed : (h : SeenPartition) (p : State) (b : ℕ) (x : Node) (s : Replica) (limit : ℕ) (order : Order) (g : StartSnapshot) (answer : Answer) (h' : SeenPartition) → Standing h p b x s
    → Going p x limit order g → FollowOnRow h b x g answer h' → Allowed p b x s (Some (recorded_of order g)) (Follow limit) answer h'
follow_on_allowed h p b x s limit order g Stopped h' st k w =
    silent h p b x s (Some (recorded_of order g)) (Follow limit) Stopped h' st
    (refuses p b (broker_of x) s (Some (recorded_of order g)) (Follow limit) Stopped Stopped (follows_halted p b x order g w.0) refl) w.1
follow_on_allowed h p b x s limit order g (StaleEpoch n) h' st k w =
    let t = stale_some h p (followed g.role) n st.partition_state w.1 w.2 in
    silent h p b x s (Some (recorded_of order g)) (Follow limit) (StaleEpoch n) h' st
    (refuses p b (broker_of x) s (Some (recorded_of order g)) (Follow limit) (StaleEpoch n) t.0 (follows_stale h p b x order g t.0 (k.up w.0) w.0 t.1) t.2) w.3
follow_on_allowed h p b x s limit order g (Passed n) h' st k w =
    let differs : n ≢ g.end = λ e. w.2 (can_extend h p b x s limit order g st k w.0 (sym e ∙ w.1)) in
    silent h p b x s (Some (recorded_of order g)) (Follow limit) (Passed n) h' st
    (does p b (broker_of x) s (Some (recorded_of order g)) (Follow limit) (Passed n) p (follows_on h p b x order g st.partition_state (k.up w.0.0) w.0)
    (when_true _ p (goes_false x order g n w.1 differs))) w.3
follow_on_allowed h p b x s limit order g TooManySegments h' st k w =
    silent h p b x s (Some (recorded_of order g)) (Follow limit) TooManySegments h' st
    (does p b (broker_of x) s (Some (recorded_of order g)) (Follow limit) TooManySegments p (follows_on h p b x order g st.partition_state (k.up w.0.0) w.0)
    (when_true _ p (goes_true x order g w.1.end))) w.2
follow_on_allowed h p b x s limit order g DiskFault h' st k w =
    flushed_end_breaks h p b x s (Some (recorded_of order g)) (Follow limit) DiskFault h' st
    (does p b (broker_of x) s (Some (recorded_of order g)) (Follow limit) DiskFault (breaks p b (broker_of x)) (follows_on h p b x order g st.partition_state (k.up w.0.0) w.0)
    (when_true _ (breaks p b (broker_of x)) (goes_true x order g w.1.end))) w.2
follow_on_allowed h p b x s limit order g (Copied n) h' st k w =
    let e = some_of _ (epoch_in g.batches) w.2 in
    copy_on h p b x s limit order g n e.0 h' st k w.0 w.1 e.1 e.2
follow_on_allowed h p b x s limit order g other h' st k w = elim w [ ]
