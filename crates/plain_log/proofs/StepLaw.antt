-- Each step keeps the safety rules, and what is committed, unless it begins that again.
use Rattle.std.proofs.Common.{◌≡◌, ◌≢◌, inl, inr, subst, ℕ, zero, suc, ◌==◌, List, [], ◌∷◌, ◌≤◌, length, Some, None, Option, Result, Ok, Err, IsOk, slice_get, slice_set, Bool, true, false, refl, ap, sym, ◌∙◌, arith}
use Rattle.std.specs.Prelude.{is_none, is_some}
use Rattle.std.specs.Option.{option_and_then}
use Rattle.std.proofs.lemmas.Bool.Decides.{nat_tests}
use Rattle.std.proofs.lemmas.Option.{none-some}
use mathlib.Core.List.{IsPrefix}
use Rattle.log_terms.proofs.Lists.{and_then_some, get-set}
use Rattle.record_batch.specs.Build.{built}
use Rattle.log_terms.specs.Batch.{last_offset_delta_of}
use Rattle.record_batch.specs.Check.{Batch, checked}
use Rattle.record_batch.specs.declared.refusal.BatchRefusal.{BatchRefusal}
use Rattle.record_batch.proofs.BuildLaws.{built_long}
use Rattle.record_batch.proofs.Passing.{is_batch_of}
use Rattle.registry.specs.declared.registry.Replica.{Replica}
use Rattle.registry.specs.Calls.{when}
use Rattle.plain_log.specs.declared.answer.Answer.{Answer}
use Rattle.plain_log.specs.declared.answer.Answer.TheVariants.{Down, IsUp, OkAt}
use Rattle.plain_log.specs.declared.command.Command.{Command}
use Rattle.plain_log.specs.declared.command.Command.TheVariants.{Append, Raw, Flush, Roll, Elect, Unclean, Learn, Join, Follow, Ack, Shrink, Expand, Copy, Trim, Expire, Raise, Clock, Stop, Up, Fetch, Pack, Copying, Offset}
use Rattle.plain_log.specs.declared.command.Order.{Order}
use Rattle.plain_log.specs.declared.journal.Event.{Event}
use Rattle.plain_log.specs.declared.journal.Event.TheVariants.{Begins, Answers}
use Rattle.plain_log.specs.declared.journal.JournalEntry.{JournalEntry}
use Rattle.plain_log.specs.declared.state.State.{State}
use Rattle.plain_log.specs.declared.state.Path.{Path}
use Rattle.plain_log.specs.declared.state.Broker.{Broker}
use Rattle.plain_log.specs.declared.state.Actor.{Actor}
use Rattle.plain_log.specs.declared.state.PlainSnapshot.{PlainSnapshot}
use Rattle.plain_log.specs.declared.state.Role.{Role}
use Rattle.plain_log.specs.declared.state.Role.TheVariants.{Idle, Leads, Follows, Joined}
use Rattle.plain_log.specs.State.{leads, followed, joined, path_of, put_broker, facts_of, leader_facts, actor_at, put_actor, with_actor}
use Rattle.plain_log.specs.RowsOfFollowers.{cut_to}
use Rattle.plain_log.specs.Rows.{refusal_at, effect, row}
use Rattle.plain_log.specs.RowsOfReads.{is_long}
use Rattle.plain_log.specs.Refusals.{down, not_leader, not_joined, stale, no_leader, level, out_of_range, empty, first_of, same_refusal}
use Rattle.plain_log.specs.Step.{begins, may_begin, same_command, recorded_of, is_recorded, event_step, next_actor, step}
use Rattle.plain_log.specs.Committed.{restarts}
use Rattle.plain_log.specs.Safe.{RoleSafe, SnapshotIsSafe, PlainSafe, is_leaders, is_followers}
use Rattle.plain_log.proofs.Options.{when_some, map_some, both, eq_of, none_of}
use Rattle.plain_log.proofs.Wider.{Wider}
use Rattle.plain_log.proofs.Swaps.{Swap, swap_same}
use Rattle.plain_log.proofs.Joins.{swap_cut}
use Rattle.plain_log.proofs.Keeps.{Keeps, RowGoes, row_goes, same, broker_kept}
use Rattle.plain_log.proofs.Tests.{by_tests, passes, passed, holds, up_leads, may_append, may_raw}
use Rattle.plain_log.proofs.LogRows.{flush_keeps, roll_keeps, stop_keeps, up_keeps}
use Rattle.plain_log.proofs.AppendRow.{append_keeps}
use Rattle.plain_log.proofs.ElectionRows.{elect_keeps, unclean_goes}
use Rattle.plain_log.proofs.LearnRow.{learn_keeps}
use Rattle.plain_log.proofs.FollowerRows.{JoinedSnapshot, may_join, may_follow, join_keeps, follow_keeps}
use Rattle.plain_log.proofs.AckRow.{ack_keeps}
use Rattle.plain_log.proofs.ReplicaRows.{shrink_keeps, expand_keeps}
use Rattle.plain_log.proofs.TierRows.{trim_keeps, expire_keeps, raise_keeps}
use Rattle.plain_log.proofs.ReadRows.{copy_same, fetch_same, offset_same, silent_same}

same_join : (c : Command) → same_command c Join ≡ true → is_followers c ≡ true
same_join Join e = refl
same_join other e = absurd cc

same_follow : (c : Command) (limit : ℕ) → same_command c (Follow limit) ≡ true → is_followers c ≡ true
same_follow (Follow n) limit e = refl
same_follow other limit e = absurd cc

-- what is known of a begun command whose order is this one
abbrev pub StartIsSafe : State → Broker → Option PlainSnapshot → Command → Type 0
StartIsSafe p x None c = Unit {0}
StartIsSafe p x (Some recorded) c = (same_command recorded.order.command c ≡ true) × SnapshotIsSafe p.paths p.registry.epoch recorded x

pub joined_for_join : (p : State) (x : Broker) (recorded : Option PlainSnapshot) → StartIsSafe p x recorded Join → JoinedSnapshot p x recorded
joined_for_join p x None h = tt
joined_for_join p x (Some recorded) h = h.1.joined (same_join recorded.order.command h.0)

pub joined_for_follow : (p : State) (x : Broker) (recorded : Option PlainSnapshot) (limit : ℕ) → StartIsSafe p x recorded (Follow limit) → JoinedSnapshot p x recorded
joined_for_follow p x None limit h = tt
joined_for_follow p x (Some recorded) limit h = h.1.joined (same_follow recorded.order.command limit h.0)

-- bytes that are a batch have its head
read_long : (bytes : List ℕ) (reading : Result Batch BatchRefusal) → checked bytes ≡ reading → IsOk reading → 61 ≤ length bytes
read_long bytes (Ok batch) is ok = (is_batch_of bytes batch is).long
read_long bytes (Err why) is ok = absurd (cc (ok))

-- a row that changes nothing
as_before : (p q : State) → p ≡ q → PlainSafe p → Keeps p q
as_before p q is s = subst (λ (k : State). Keeps p k) is (same p s)

-- what is done keeps them
effect_keeps : (p : State) (b : ℕ) (x : Broker) (r : Replica) (recorded : Option PlainSnapshot) (command : Command) (answer : Answer) (q : State)
    → slice_get p.brokers b ≡ Some x → slice_get p.registry.replicas b ≡ Some r → StartIsSafe p x recorded command
    → refusal_at p b x recorded command ≡ None → effect p b x r recorded command answer ≡ Some q → PlainSafe p → RowGoes (restarts command (Answers answer)) p q
effect_keeps p b x r recorded (Append recs) answer q bx br j none e s =
    row_goes p q (append_keeps p b x (built recs) answer q bx (built_long recs) (may_append (facts_of b x) (last_offset_delta_of (built recs)) none) e s)
effect_keeps p b x r recorded (Raw bytes) answer q bx br j none e s =
    let may = may_raw (facts_of b x) (checked bytes) (last_offset_delta_of bytes) none in
    row_goes p q (append_keeps p b x bytes answer q bx (read_long bytes (checked bytes) refl may.0) may.1 e s)
effect_keeps p b x r recorded Flush answer q bx br j none e s = row_goes p q (flush_keeps p b x answer q bx e s)
effect_keeps p b x r recorded Roll answer q bx br j none e s = row_goes p q (roll_keeps p b x answer q bx e s)
effect_keeps p b x r recorded Elect answer q bx br j none e s = row_goes p q (elect_keeps p b x r answer q br none e s)
effect_keeps p b x r recorded Unclean answer q bx br j none e s = unclean_goes p b x answer q bx none e s
effect_keeps p b x r recorded Learn answer q bx br j none e s = row_goes p q (learn_keeps p b x r answer q bx br none e s)
effect_keeps p b x r recorded Join answer q bx br j none e s =
    row_goes p q (join_keeps p b x recorded answer q bx (may_join p b x recorded none (joined_for_join p x recorded j)) e s)
effect_keeps p b x r recorded (Follow limit) answer q bx br j none e s =
    row_goes p q (follow_keeps p b x limit recorded answer q bx (may_follow p b x recorded limit none (joined_for_follow p x recorded limit j)) e s)
effect_keeps p b x r recorded Ack answer q bx br j none e s = row_goes p q (ack_keeps p b x r answer q bx br none e s)
effect_keeps p b x r recorded Shrink answer q bx br j none e s = row_goes p q (shrink_keeps p b x r answer q br none e s)
effect_keeps p b x r recorded Expand answer q bx br j none e s = row_goes p q (expand_keeps p b x r answer q br none e s)
effect_keeps p b x r recorded Copy answer q bx br j none e s = row_goes p q (as_before p q (copy_same p recorded answer q e) s)
effect_keeps p b x r recorded Trim answer q bx br j none e s = row_goes p q (trim_keeps p b x recorded answer q bx e s)
effect_keeps p b x r recorded Expire answer q bx br j none e s = row_goes p q (expire_keeps p recorded answer q e s)
effect_keeps p b x r recorded (Raise start) answer q bx br j none e s = row_goes p q (raise_keeps p b x start answer q none e s)
effect_keeps p b x r recorded (Clock ms) answer q bx br j none e s = row_goes p q (as_before p q (silent_same p answer q e) s)
effect_keeps p b x r recorded Stop answer q bx br j none e s = row_goes p q (stop_keeps p b x answer q bx e s)
effect_keeps p b x r recorded Up answer q bx br j none e s = row_goes p q (up_keeps p b x answer q bx (passed x.up IsUp none) e s)
effect_keeps p b x r recorded (Fetch offset limit) answer q bx br j none e s = row_goes p q (as_before p q (fetch_same p x offset limit recorded answer q e) s)
effect_keeps p b x r recorded (Pack on) answer q bx br j none e s = row_goes p q (as_before p q (silent_same p answer q e) s)
effect_keeps p b x r recorded (Copying on) answer q bx br j none e s = row_goes p q (as_before p q (silent_same p answer q e) s)
effect_keeps p b x r recorded (Offset which) answer q bx br j none e s = row_goes p q (as_before p q (offset_same p x which recorded answer q e) s)

-- a refusal doesn't begin again what is committed
refused_on : (c : Command) (answer reason : Answer) → same_refusal answer reason ≡ true → restarts c (Answers answer) ≡ false
refused_on Unclean (OkAt n) reason e = absurd cc
refused_on other answer reason e = refl

-- each row keeps them
pub row_keeps : (p : State) (b : ℕ) (x : Broker) (r : Replica) (recorded : Option PlainSnapshot) (command : Command) (answer : Answer) (q : State)
    → slice_get p.brokers b ≡ Some x → slice_get p.registry.replicas b ≡ Some r → StartIsSafe p x recorded command
    → row p b x r recorded command answer ≡ Some q → PlainSafe p → RowGoes (restarts command (Answers answer)) p q
row_keeps p b x r recorded command answer q bx br j e s =
    by_tests (RowGoes (restarts command (Answers answer)) p) p q (refusal_at p b x recorded command) answer (effect p b x r recorded command answer) e
    (λ reason is. subst (λ (k : Bool). RowGoes k p p) (sym (refused_on command answer reason is)) (row_goes p p (same p s)))
    (λ none done. effect_keeps p b x r recorded command answer q bx br j none done s)

-- what was written of an actor is there
pub actor_put : (actors : List Actor) (a : ℕ) (y : Actor) → actor_at (put_actor actors a y) a ≡ y
actor_put [] zero y = refl
actor_put [] (suc a) y = actor_put [] a y
actor_put (z ∷ actors) zero y = refl
actor_put (z ∷ actors) (suc a) y = actor_put actors a y

-- and the others are as they did
pub actor_kept : (actors : List Actor) (a : ℕ) (y : Actor) (c : ℕ) → c ≢ a → actor_at (put_actor actors a y) c ≡ actor_at actors c
actor_kept [] zero y zero ne = absurd (ne refl)
actor_kept [] zero y (suc c) ne = refl
actor_kept [] (suc a) y zero ne = refl
actor_kept [] (suc a) y (suc c) ne = actor_kept [] a y c (λ e. ne (ap suc e))
actor_kept (z ∷ actors) zero y zero ne = absurd (ne refl)
actor_kept (z ∷ actors) zero y (suc c) ne = refl
actor_kept (z ∷ actors) (suc a) y zero ne = refl
actor_kept (z ∷ actors) (suc a) y (suc c) ne = actor_kept actors a y c (λ e. ne (ap suc e))

-- an actor that continues keeps them, where what it recorded is safe
pub with_actor_safe : (p : State) (a : ℕ) (y : Actor)
    → ((n : PlainSnapshot) (x : Broker) → y.snapshot ≡ Some n → slice_get p.brokers n.order.broker.0 ≡ Some x → SnapshotIsSafe p.paths p.registry.epoch n x)
    → PlainSafe p → PlainSafe (with_actor a y p)
with_actor_safe p a y h s = record {
  marks = s.marks;
  paths = s.paths;
  brokers = s.brokers;
  known_high_watermark = s.known_high_watermark;
  one_leader = s.one_leader;
  acks = s.acks;
  leader = s.leader;
  leader_within = s.leader_within;
  same_count = s.same_count;
  broken = s.broken;
  recorded = λ c n x bg nx. go c n x bg nx (c == a) refl;
}
  where
    go : (c : ℕ) (n : PlainSnapshot) (x : Broker) → (actor_at (put_actor p.actors a y) c).snapshot ≡ Some n → slice_get p.brokers n.order.broker.0 ≡ Some x
        → (t : Bool) → (c == a) ≡ t → SnapshotIsSafe p.paths p.registry.epoch n x
    go c n x bg nx true t =
        let is : c ≡ a = grind (arith, nat_tests, t) in
        h n x (sym (ap (λ (k : Actor). k.snapshot) (ap (actor_at (put_actor p.actors a y)) is ∙ actor_put p.actors a y)) ∙ bg) nx
    go c n x bg nx false t =
        let ne : c ≢ a = grind (arith, nat_tests, t) in
        s.recorded c n x (sym (ap (λ (k : Actor). k.snapshot) (actor_kept p.actors a y c ne)) ∙ bg) nx

-- a broker as it is where a command begins
pub record BeginSafe (p : State) (x : Broker) (c : Command) (z : Broker) : Type 0 where
  pub swap : Swap p x z
  pub up : z.up ≡ true
  pub leads : is_leaders c ≡ true → (e : ℕ) × (log : List (List ℕ)) × (z.role ≡ Leads e) × (path_of p.paths e ≡ Some log)
  pub joined : is_followers c ≡ true → (e : ℕ) × (z.role ≡ Joined e)

leads_path : (paths : List Path) (n : ℕ) (r : Role) (log : List (List ℕ)) → leads r ≡ true → RoleSafe paths n r log
    → (e : ℕ) × (path : List (List ℕ)) × (r ≡ Leads e) × (path_of paths e ≡ Some path)
leads_path paths n Idle log t h = absurd cc
leads_path paths n (Leads e) log t h = (e, log, refl, h.1)
leads_path paths n (Follows e) log t h = absurd cc
leads_path paths n (Joined e) log t h = absurd cc

joined_in : (r : Role) → is_some (joined r) ≡ true → (e : ℕ) × (r ≡ Joined e)
joined_in Idle t = absurd cc
joined_in (Leads e) t = absurd cc
joined_in (Follows e) t = absurd cc
joined_in (Joined e) t = (e, refl)

begin_same : (p : State) (b : ℕ) (x : Broker) (c : Command) (z : Broker) → slice_get p.brokers b ≡ Some x → x ≡ z → PlainSafe p
    → x.up ≡ true → (is_leaders c ≡ true → leads x.role ≡ true) → (is_followers c ≡ true → is_some (joined x.role) ≡ true) → BeginSafe p x c z
begin_same p b x c z at is s up lead join =
    subst (λ (y : Broker). BeginSafe p x c y) is (record {
      swap = swap_same p b x at s;
      up = up;
      leads = λ i. leads_path p.paths p.registry.epoch x.role x.log (lead i) (s.brokers b x at).role;
      joined = λ i. joined_in x.role (join i);
    })

-- a command that a leader begins
begin_led : (p : State) (b : ℕ) (x : Broker) (c : Command) (z : Broker) (tests : List (Option Answer)) → slice_get p.brokers b ≡ Some x → x ≡ z → PlainSafe p
    → is_followers c ≡ false → first_of (down (facts_of b x) ∷ not_leader (facts_of b x) ∷ tests) ≡ None → BeginSafe p x c z
begin_led p b x c z tests at is s leaders none =
    let t = up_leads (facts_of b x) tests none in
    begin_same p b x c z at is s t.0 (λ i. t.1) (λ i. absurd (cc (leaders, i)))

-- a role that has joined
has_joined : (r : Role) → not_joined (joined r) ≡ None → is_some (joined r) ≡ true
has_joined Idle e = absurd cc
has_joined (Leads e) none = absurd cc
has_joined (Follows e) none = absurd cc
has_joined (Joined e) none = refl

begin_follow : (p : State) (b : ℕ) (x : Broker) (limit : ℕ) (z : Broker) → slice_get p.brokers b ≡ Some x → x ≡ z → PlainSafe p
    → refusal_at p b x None (Follow limit) ≡ None → BeginSafe p x (Follow limit) z
begin_follow p b x limit z at is s none =
    let f = facts_of b x in
    let r = p.registry in
    let tests = stale r (joined f.role) ∷ no_leader r (leader_facts p) ∷ level (leader_facts p) f ∷ [] in
    let t = passes (down f) (not_joined (joined f.role) ∷ tests) none in
    let u = passes (not_joined (joined f.role)) tests t.1 in
    begin_same p b x (Follow limit) z at is s (holds x.up Down t.0) (λ i. absurd cc) (λ i. has_joined x.role u.0)

cut_joined : (p : State) (x : Broker) (n : ℕ) (y : Broker) → x.up ≡ true → cut_to p x n ≡ Some y → (y.up ≡ true) × ((e : ℕ) × (y.role ≡ Joined e))
cut_joined p x n y up is =
    let f = and_then_some _ (followed x.role) y is in
    let g = and_then_some _ (path_of p.paths f.0) y f.2 in
    let w = when_some _ _ y g.2 in
    (ap (λ (k : Broker). k.up) (sym w.1) ∙ up, (f.0, ap (λ (k : Broker). k.role) (sym w.1)))

some_is : (x z : Broker) → ◌≡◌ {A = Option Broker} (Some x) (Some z) → x ≡ z
some_is x z e = cc (e)

begins_safe : (p : State) (b : ℕ) (x : Broker) (c : Command) (cut : Option ℕ) (z : Broker) → slice_get p.brokers b ≡ Some x → refusal_at p b x None c ≡ None
    → begins p x c cut ≡ Some z → PlainSafe p → BeginSafe p x c z
begins_safe p b x Join (Some n) z at none e s =
    let may = may_join p b x None none tt in
    let k = cut_joined p x n z may.0 e in
    record { swap = swap_cut p x n z may e (s.brokers b x at) (s.known_high_watermark b x at); up = k.0; leads = λ i. absurd cc; joined = λ i. k.1 }
begins_safe p b x (Follow limit) None z at none e s = begin_follow p b x limit z at (some_is x z e) s none
begins_safe p b x Copy None z at none e s = begin_led p b x Copy z [] at (some_is x z e) s refl none
begins_safe p b x Trim None z at none e s =
    begin_same p b x Trim z at (some_is x z e) s (holds x.up Down none) (λ i. absurd cc) (λ i. absurd cc)
begins_safe p b x Expire None z at none e s = begin_led p b x Expire z [] at (some_is x z e) s refl none
begins_safe p b x (Fetch offset limit) None z at none e s =
    begin_led p b x (Fetch offset limit) z (out_of_range p.registry (facts_of b x) offset ∷ empty (facts_of b x) offset ∷ []) at (some_is x z e) s refl none
begins_safe p b x (Offset which) None z at none e s =
    begin_led p b x (Offset which) z [] at (when_some (is_long which) x z e).1 s refl none
begins_safe p b x other cut z at none e s = absurd (none-some z e)

recorded_begin : (p : State) (order : Order) (x z : Broker) → BeginSafe p x order.command z → SnapshotIsSafe p.paths p.registry.epoch (recorded_of p order z) z
recorded_begin p order x z h = record {
  stops = omega arith;
  up = λ _. h.up;
  leads = h.leads;
  joined = λ c. let j = h.joined c in (j.0, j.1, λ _ _. refl);
}

-- what a step keeps, where `anew` reports whether it starts again what is committed
pub record Goes (anew : Bool) (p q : State) : Type 0 where
  pub safe : PlainSafe q
  pub wider : Wider p.paths q.paths
  pub grows : anew ≡ false → IsPrefix p.committed q.committed
  pub clean : q.unclean ≡ false → (p.unclean ≡ false) × (anew ≡ false)

-- what an event of actor a keeps: that, and the other actors
pub record EventGoes (anew : Bool) (p : State) (a : ℕ) (q : State) : Type 0 where
  pub goes : Goes anew p q
  pub others : (c : ℕ) → c ≢ a → actor_at q.actors c ≡ actor_at p.actors c

-- an actor that continues keeps what a row does
with_actor_goes : (anew : Bool) (p q : State) (a : ℕ) (y : Actor)
    → ((n : PlainSnapshot) (x : Broker) → y.snapshot ≡ Some n → slice_get q.brokers n.order.broker.0 ≡ Some x → SnapshotIsSafe q.paths q.registry.epoch n x)
    → RowGoes anew p q → EventGoes anew p a (with_actor a y q)
with_actor_goes anew p q a y h k = record {
  goes = record { safe = with_actor_safe q a y h k.safe; wider = k.wider; grows = k.grows; clean = k.clean };
  others = λ c ne. actor_kept q.actors a y c ne ∙ ap (λ (z : List Actor). actor_at z c) k.actors;
}

-- what an actor has begun is known of, where the order is its command
pub begun_safe : (p : State) (a : ℕ) (order : Order) (x : Broker) (o : Option PlainSnapshot) → slice_get p.brokers order.broker.0 ≡ Some x → PlainSafe p
    → (actor_at p.actors a).snapshot ≡ o → is_recorded o order ≡ true → StartIsSafe p x o order.command
begun_safe p a order x None bx s i t = tt
begun_safe p a order x (Some n) bx s i t =
    let u = both (n.order.broker.0 == order.broker.0) (same_command n.order.command order.command) t in
    let one : n.order.broker.0 ≡ order.broker.0 = eq_of n.order.broker.0 order.broker.0 u.0 in
    (u.1, s.recorded a n x i (ap (λ (k : ℕ). slice_get p.brokers k) one ∙ bx))

-- a command that begins leaves what is committed
begins_on : (c : Command) (cut : Option ℕ) → restarts c (Begins cut) ≡ false
begins_on Unclean cut = refl
begins_on other cut = refl

-- so does each event
event_goes : (p : State) (a : ℕ) (order : Order) (x : Broker) (r : Replica) (event : Event) (q : State)
    → slice_get p.brokers order.broker.0 ≡ Some x → slice_get p.registry.replicas order.broker.0 ≡ Some r
    → is_recorded (actor_at p.actors a).snapshot order ≡ true
    → event_step p a (actor_at p.actors a) order x r event ≡ Some q → PlainSafe p → EventGoes (restarts order.command event) p a q
event_goes p a order x r (Begins cut) q bx br recorded e s =
    let w = map_some _ (option_and_then (λ (z : Broker). when (may_begin p order.broker.0 x (actor_at p.actors a) order.command) z) (begins p x order.command cut)) q e in
    let f = and_then_some _ (begins p x order.command cut) w.0 w.1 in
    let v = when_some _ _ w.0 f.2 in
    let is : begins p x order.command cut ≡ Some w.0 = f.1 ∙ ap Some v.1 in
    let none = none_of (refusal_at p order.broker.0 x None order.command) (both (is_none (actor_at p.actors a).snapshot) _ v.0).1 in
    let g = begins_safe p order.broker.0 x order.command cut w.0 bx none is s in
    subst (λ (k : Bool). EventGoes k p a q) (sym (begins_on order.command cut)) (subst (λ (k : State). EventGoes false p a k) w.2 (with_actor_goes false p (put_broker p order.broker.0 w.0) a _
    (λ n z bg nz.
    let same : recorded_of p order w.0 ≡ n = cc (bg) in
    subst (λ (k : PlainSnapshot). SnapshotIsSafe p.paths p.registry.epoch k z) same
    (elim (get-set p.brokers order.broker.0 w.0 order.broker.0 z (ap (λ (k : PlainSnapshot). slice_get (slice_set p.brokers order.broker.0 w.0) k.order.broker.0) same ∙ nz)) [
      | inl i ↦ subst (λ (k : Broker). SnapshotIsSafe p.paths p.registry.epoch (recorded_of p order w.0) k) (sym i.1) (recorded_begin p order x w.0 g)
      | inr i ↦ absurd (i.0 refl)
    ]))
    (row_goes p (put_broker p order.broker.0 w.0) (broker_kept p order.broker.0 x w.0 bx g.swap s))))
event_goes p a order x r (Answers answer) q bx br recorded e s =
    let w = map_some _ (row p order.broker.0 x r (actor_at p.actors a).snapshot order.command answer) q e in
    let snapshot = begun_safe p a order x (actor_at p.actors a).snapshot bx s refl recorded in
    subst (λ (k : State). EventGoes (restarts order.command (Answers answer)) p a k) w.2 (with_actor_goes (restarts order.command (Answers answer)) p w.0 a _ (λ n z bg nz. absurd cc)
    (row_keeps p order.broker.0 x r (actor_at p.actors a).snapshot order.command answer w.0 bx br snapshot w.1 s))

-- what a step is made of
pub record StepOf (p : State) (order : Order) (entry : JournalEntry) (q : State) : Type 0 where
  pub broker : Broker
  pub at : slice_get p.brokers order.broker.0 ≡ Some broker
  pub replica : Replica
  pub place : slice_get p.registry.replicas order.broker.0 ≡ Some replica
  pub number : entry.number ≡ (actor_at p.actors entry.actor.0).number
  pub recorded : is_recorded (actor_at p.actors entry.actor.0).snapshot order ≡ true
  pub event : event_step p entry.actor.0 (actor_at p.actors entry.actor.0) order broker replica entry.event ≡ Some q

pub step_of : (p : State) (order : Order) (entry : JournalEntry) (q : State) → step p order entry ≡ Some q → StepOf p order entry q
step_of p order entry q e =
    let x = and_then_some _ (slice_get p.brokers order.broker.0) q e in
    let r = and_then_some _ (slice_get p.registry.replicas order.broker.0) q x.2 in
    let y = and_then_some _ (next_actor p order entry) q r.2 in
    let w = when_some _ _ y.0 y.1 in
    let t = both (entry.number == (actor_at p.actors entry.actor.0).number) (is_recorded (actor_at p.actors entry.actor.0).snapshot order) w.0 in
    record {
      broker = x.0;
      at = x.1;
      replica = r.0;
      place = r.1;
      number = grind (arith, nat_tests, t.0);
      recorded = t.1;
      event = subst (λ (k : Actor). event_step p entry.actor.0 k order x.0 r.0 entry.event ≡ Some q) (sym w.1) y.2;
    }

step_event : (p : State) (order : Order) (entry : JournalEntry) (q : State) → step p order entry ≡ Some q → PlainSafe p
    → EventGoes (restarts order.command entry.event) p entry.actor.0 q
step_event p order entry q e s =
    let h = step_of p order entry q e in
    event_goes p entry.actor.0 order h.broker h.replica entry.event q h.at h.place h.recorded h.event s

-- so does each step
pub step_goes : (p : State) (order : Order) (entry : JournalEntry) (q : State) → step p order entry ≡ Some q → PlainSafe p
    → Goes (restarts order.command entry.event) p q
step_goes p order entry q e s = (step_event p order entry q e s).goes

pub step_safe : (p : State) (order : Order) (entry : JournalEntry) (q : State) → step p order entry ≡ Some q → PlainSafe p → PlainSafe q
step_safe p order entry q e s = (step_goes p order entry q e s).safe

-- and it leaves the other actors
pub step_others : (p : State) (order : Order) (entry : JournalEntry) (q : State) (c : ℕ) → step p order entry ≡ Some q → PlainSafe p
    → c ≢ entry.actor.0 → actor_at q.actors c ≡ actor_at p.actors c
step_others p order entry q c e s ne = (step_event p order entry q e s).others c ne
