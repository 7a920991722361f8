-- What is committed only grows until an unclean election, and while there was none each run is a part of it.
use Rattle.std.proofs.Common.{◌≡◌, ◌∙◌, sym, ap, subst, refl, ℕ, ◌+◌, ◌-◌, ◌<◌, ◌≤◌, ◌==◌, nat_lt, List, [], ◌∷◌, ◌++◌, length, Some, None, Option, slice_get, Bool, true, false, ◌&&◌, arith, append_assoc}
use Rattle.std.specs.Prelude.{nat_le, bytes_eq}
use Rattle.std.specs.List.{AllByRecursion}
use Rattle.std.proofs.lemmas.Bool.Decides.{nat_tests}
use Rattle.std.proofs.lemmas.Slice.Eq.{bytes_eq-Decides}
use mathlib.Core.List.{IsPrefix}
use Rattle.tier_base.specs.declared.plain.Stop.{Stop}
use Rattle.log_terms.specs.Batch.{base_of, epoch_of, last_of}
use Rattle.log_terms.specs.Log.{IsConsecutive, end_from, end_of, joined, from_offset}
use Rattle.log_terms.proofs.Lists.{and_then_some, prefix_self, prefix_trans}
use Rattle.log_terms.proofs.Logs.{nested, end_append}
use Rattle.plain_log.specs.declared.answer.Answer.{Answer}
use Rattle.plain_log.specs.declared.answer.Answer.TheVariants.{Run, NotLeader}
use Rattle.plain_log.specs.declared.answer.Tier.{Tier}
use Rattle.plain_log.specs.declared.command.ActorList.{ActorList}
use Rattle.plain_log.specs.declared.command.Command.{Command}
use Rattle.plain_log.specs.declared.command.Command.TheVariants.{Fetch}
use Rattle.plain_log.specs.declared.command.Order.{Order}
use Rattle.plain_log.specs.declared.journal.Event.{Event}
use Rattle.plain_log.specs.declared.journal.Event.TheVariants.{Answers}
use Rattle.plain_log.specs.declared.journal.JournalEntry.{JournalEntry}
use Rattle.plain_log.specs.declared.state.State.{State}
use Rattle.plain_log.specs.declared.state.Path.{Path}
use Rattle.plain_log.specs.declared.state.Broker.{Broker}
use Rattle.plain_log.specs.declared.state.Role.{Role}
use Rattle.plain_log.specs.declared.state.Role.TheVariants.{Idle, Leads, Follows, Joined}
use Rattle.plain_log.specs.declared.state.PlainSnapshot.{PlainSnapshot}
use Rattle.plain_log.specs.State.{leads, same_role, path_of, actor_at, facts_of, since_of}
use Rattle.plain_log.specs.Refusals.{out_of_range, empty, has_stopped, other_role, unless}
use Rattle.plain_log.specs.Fetch.{fitting, run_of, is_within, stops_rightly, is_run}
use Rattle.plain_log.specs.RowsOfReads.{fetch_row}
use Rattle.plain_log.specs.Rows.{row, refusal_at}
use Rattle.plain_log.specs.Step.{event_step, same_command, step}
use Rattle.plain_log.specs.Runs.{order_of, entry_step, replay}
use Rattle.plain_log.specs.Safe.{RoleSafe, LogSafe, PlainSafe, is_leaders}
use Rattle.plain_log.specs.Committed.{IsNoRestart, IsPartAt, IsCommittedRun, IsPartOfPath, IsRunOfPath}
use Rattle.plain_log.proofs.Options.{when_some, map_some, both, le_of, eq_of}
use Rattle.plain_log.proofs.Wider.{Wider, wider_self, wider_trans}
use Rattle.plain_log.proofs.StepLaw.{StartIsSafe, begun_safe, step_of, step_goes, step_safe}
use Rattle.plain_log.proofs.Tests.{passes, holds, up_leads}
use Rattle.plain_log.proofs.Swaps.{role_as}

-- a run is a part of what its broker knows to be committed

fitting_prefix : (room : ℕ) (log : List (List ℕ)) → IsPrefix (fitting room log) log
fitting_prefix room [] = ([], refl)
fitting_prefix room (batch ∷ log) = go (nat_le (length batch) room) refl (fitting_prefix (room - length batch) log)
  where
    go : (t : Bool) → nat_le (length batch) room ≡ t → IsPrefix (fitting (room - length batch) log) log → IsPrefix (fitting room (batch ∷ log)) (batch ∷ log)
    go true t r = rw t (r.0, ap (λ (k : List (List ℕ)). batch ∷ k) r.1)
    go false t r = rw t (batch ∷ log, refl)

-- the log before the batch that holds the offset, and from there on
pub record Splits (n offset : ℕ) (log : List (List ℕ)) : Type 0 where
  pub front : List (List ℕ)
  pub parts : front ++ from_offset offset log ≡ log
  pub low : end_from n front ≤ offset

splits : (n offset : ℕ) (log : List (List ℕ)) → n ≤ offset → Splits n offset log
splits n offset [] low = record { front = []; parts = refl; low = low }
splits n offset (batch ∷ log) low = go (nat_lt (last_of batch) offset) refl (λ lt. splits (last_of batch + 1) offset log (omega (arith, lt)))
  where
    go : (t : Bool) → nat_lt (last_of batch) offset ≡ t → (last_of batch < offset → Splits (last_of batch + 1) offset log) → Splits n offset (batch ∷ log)
    go true t rec =
        let r = rec (grind (arith, nat_tests, t)) in
        record { front = batch ∷ r.front; parts = rw t (ap (λ (k : List (List ℕ)). batch ∷ k) r.parts); low = r.low }
    go false t rec = record { front = []; parts = rw t refl; low = low }

-- the first batch from the offset on ends past it
first_high : (offset : ℕ) (log : List (List ℕ)) (first : List ℕ) (rest : List (List ℕ)) → from_offset offset log ≡ first ∷ rest → offset ≤ last_of first
first_high offset [] first rest e = absurd cc
first_high offset (batch ∷ log) first rest e = go (nat_lt (last_of batch) offset) refl (λ f. first_high offset log first rest f) e
  where
    go : (t : Bool) → nat_lt (last_of batch) offset ≡ t → (from_offset offset log ≡ first ∷ rest → offset ≤ last_of first) → from_offset offset (batch ∷ log) ≡ first ∷ rest → offset ≤ last_of first
    go true t rec f = rec (rw t at f)
    go false t rec f =
        let k : batch ∷ log ≡ first ∷ rest = (rw t at f) in
        let same : batch ≡ first = cc (k) in
        let high : offset ≤ last_of batch = grind (arith, nat_tests, t) in
        omega (arith, high, ap last_of same)

-- a batch of consecutive ones begins where those before it end
base_at : (n : ℕ) (front : List (List ℕ)) (first : List ℕ) (rest : List (List ℕ)) → IsConsecutive n (front ++ first ∷ rest) → base_of first ≡ end_from n front
base_at n [] first rest c = c.0
base_at n (batch ∷ front) first rest c = base_at (last_of batch + 1) front first rest c.1

-- a run that isn't empty ends where it ends from any start
end_any : (m n : ℕ) (first : List ℕ) (others : List (List ℕ)) → end_from m (first ∷ others) ≡ end_from n (first ∷ others)
end_any m n first others = refl

-- the tests of a run
pub record RunTests (x : Broker) (offset limit size : ℕ) (bytes : List ℕ) : Type 0 where
  pub is : joined (run_of x offset size) ≡ bytes
  pub some : is_within limit (run_of x offset size) ≡ true
  pub below : end_of (run_of x offset size) ≤ x.known_high_watermark

run_tests : (x : Broker) (offset limit size : ℕ) (stop : Stop) (bytes : List ℕ) → is_run x offset limit size stop bytes ≡ true → RunTests x offset limit size bytes
run_tests x offset limit size stop bytes e =
    let run = run_of x offset size in
    let t1 = both ((size == length bytes) && bytes_eq (joined run) bytes && is_within limit run && nat_le (end_of run) x.known_high_watermark) (stops_rightly x offset limit size stop) e in
    let t2 = both ((size == length bytes) && bytes_eq (joined run) bytes && is_within limit run) (nat_le (end_of run) x.known_high_watermark) t1.0 in
    let t3 = both ((size == length bytes) && bytes_eq (joined run) bytes) (is_within limit run) t2.0 in
    let t4 = both (size == length bytes) (bytes_eq (joined run) bytes) t3.0 in
    record { is = (bytes_eq-Decides (joined run) bytes).0 t4.1; some = t3.1; below = le_of (end_of run) x.known_high_watermark t2.1 }

-- a run is a part of each list that has the beginnings of the log up to the high watermark that the broker knows
part_in : (x : Broker) (offset limit size : ℕ) (stop : Stop) (bytes : List ℕ) (list : List (List ℕ)) → IsConsecutive 0 x.log
    → ((run : List (List ℕ)) → IsPrefix run x.log → end_of run ≤ x.known_high_watermark → IsPrefix run list)
    → is_run x offset limit size stop bytes ≡ true → IsPartAt offset bytes list
part_in x offset limit size stop bytes list c h e = go (run_of x offset size) refl
  where
    t : RunTests x offset limit size bytes
    t = run_tests x offset limit size stop bytes e

    sp : Splits 0 offset x.log
    sp = splits 0 offset x.log (omega arith)

    pre : IsPrefix (run_of x offset size) (from_offset offset x.log)
    pre = fitting_prefix size (from_offset offset x.log)

    go : (run : List (List ℕ)) → run_of x offset size ≡ run → IsPartAt offset bytes list
    go [] is = absurd (let k : false ≡ true = (rw is at t.some) in cc (k))
    go (first ∷ others) is =
        let q : IsPrefix (first ∷ others) (from_offset offset x.log) = subst (λ (k : List (List ℕ)). IsPrefix k (from_offset offset x.log)) is pre in
        let whole : (sp.front ++ (first ∷ others)) ++ q.0 ≡ x.log = append_assoc sp.front (first ∷ others) q.0 ∙ (ap (λ (k : List (List ℕ)). sp.front ++ k) q.1 ∙ sp.parts) in
        let ends : end_of (sp.front ++ (first ∷ others)) ≡ end_of (first ∷ others) = end_append 0 sp.front (first ∷ others) in
        let below : end_of (first ∷ others) ≤ x.known_high_watermark = subst (λ (k : List (List ℕ)). end_of k ≤ x.known_high_watermark) is t.below in
        let m = h (sp.front ++ (first ∷ others)) (q.0, whole) (omega (arith, ends, below)) in
        let c2 : IsConsecutive 0 (sp.front ++ (first ∷ (others ++ q.0))) = subst (λ (k : List (List ℕ)). IsConsecutive 0 k) (sym whole ∙ append_assoc sp.front (first ∷ others) q.0) c in
        let base = base_at 0 sp.front first (others ++ q.0) c2 in
        record {
          front = sp.front;
          first = first;
          others = others;
          rest = m.0;
          parts = sym m.1 ∙ append_assoc sp.front (first ∷ others) m.0;
          is = sym t.is ∙ ap joined is;
          low = omega (arith, base, sp.low);
          high = first_high offset x.log first (others ++ q.0) (sym q.1);
        }

part_of : (p : State) (b : ℕ) (x : Broker) (offset limit size : ℕ) (stop : Stop) (bytes : List ℕ) → slice_get p.brokers b ≡ Some x → PlainSafe p → p.unclean ≡ false
    → is_run x offset limit size stop bytes ≡ true → IsPartAt offset bytes p.committed
part_of p b x offset limit size stop bytes at s clean e =
    let c = (s.brokers b x at).log.consecutive in
    let known = (s.known_high_watermark b x at).shared clean in
    part_in x offset limit size stop bytes p.committed c
    (λ run on le. prefix_trans run known.0 p.committed (nested 0 run known.0 x.log c on known.1 (omega (arith, le, known.2))) known.3) e

-- a leader's log is the path of its epoch
led_path : (paths : List Path) (n : ℕ) (r : Role) (log : List (List ℕ)) → leads r ≡ true → RoleSafe paths n r log → (e : ℕ) × (path_of paths e ≡ Some log)
led_path paths n Idle log t h = absurd cc
led_path paths n (Leads e) log t h = (e, h.1)
led_path paths n (Follows e) log t h = absurd cc
led_path paths n (Joined e) log t h = absurd cc

-- what a fetch is answered with is a run
is_run_of : (p : State) (x : Broker) (offset limit : ℕ) (recorded : Option PlainSnapshot) (tier : Tier) (size : ℕ) (stop : Stop) (bytes : List ℕ) (q : State)
    → fetch_row p x offset limit recorded (Run tier size stop bytes) ≡ Some q → is_run x offset limit size stop bytes ≡ true
is_run_of p x offset limit None tier size stop bytes q e = (when_some _ p q e).0
is_run_of p x offset limit (Some recorded) tier size stop bytes q e = (when_some _ p q e).0

-- two roles that are one
role_is : (r s : Role) → same_role r s ≡ true → r ≡ s
role_is Idle Idle e = refl
role_is (Leads m) (Leads n) e = ap Leads (eq_of m n e)
role_is (Follows m) (Follows n) e = ap Follows (eq_of m n e)
role_is (Joined m) (Joined n) e = ap Joined (eq_of m n e)
role_is r s e = absurd cc

same_fetch : (c : Command) (offset limit : ℕ) → same_command c (Fetch offset limit) ≡ true → is_leaders c ≡ true
same_fetch (Fetch n m) offset limit e = refl
same_fetch other offset limit e = absurd cc

-- a fetch isn't refused, and so its broker leads
may_fetch : (p : State) (b : ℕ) (x : Broker) (recorded : Option PlainSnapshot) (offset limit : ℕ) → slice_get p.brokers b ≡ Some x → PlainSafe p
    → StartIsSafe p x recorded (Fetch offset limit) → refusal_at p b x recorded (Fetch offset limit) ≡ None → (e : ℕ) × (path_of p.paths e ≡ Some x.log)
may_fetch p b x None offset limit at s j none =
    let f = facts_of b x in
    led_path p.paths p.registry.epoch x.role x.log (up_leads f (out_of_range p.registry f offset ∷ empty f offset ∷ []) none).1 (s.brokers b x at).role
may_fetch p b x (Some recorded) offset limit at s j none =
    let f = facts_of b x in
    let n = since_of recorded in
    let tests = out_of_range p.registry f offset ∷ empty f offset ∷ [] in
    let t = passes (has_stopped f n) (other_role f n ∷ tests) none in
    let u = passes (other_role f n) tests t.1 in
    let one = role_is recorded.role x.role (holds (same_role recorded.role x.role) NotLeader u.0) in
    let led = j.1.leads (same_fetch recorded.order.command offset limit j.0) in
    let r = role_as p.paths p.registry.epoch x.role (Leads led.0) x.log (sym one ∙ led.2) (s.brokers b x at).role in
    (led.0, r.1)

-- so a run is a part of its epoch's path, and of what is committed while elections are clean
fetch_led : (p : State) (b : ℕ) (x : Broker) (offset limit : ℕ) (recorded : Option PlainSnapshot) (tier : Tier) (size : ℕ) (stop : Stop) (bytes : List ℕ) (q : State)
    → slice_get p.brokers b ≡ Some x → PlainSafe p → StartIsSafe p x recorded (Fetch offset limit) → refusal_at p b x recorded (Fetch offset limit) ≡ None
    → fetch_row p x offset limit recorded (Run tier size stop bytes) ≡ Some q → IsPartOfPath p.paths offset bytes
fetch_led p b x offset limit recorded tier size stop bytes q at s j none e =
    let on = may_fetch p b x recorded offset limit at s j none in
    let h = s.brokers b x at in
    (on.0, x.log, on.1, part_in x offset limit size stop bytes x.log h.log.consecutive (λ run prefix le. prefix) (is_run_of p x offset limit recorded tier size stop bytes q e))

fetch_part : (p : State) (b : ℕ) (x : Broker) (offset limit : ℕ) (recorded : Option PlainSnapshot) (tier : Tier) (size : ℕ) (stop : Stop) (bytes : List ℕ) (q : State)
    → slice_get p.brokers b ≡ Some x → PlainSafe p → p.unclean ≡ false → fetch_row p x offset limit recorded (Run tier size stop bytes) ≡ Some q → IsPartAt offset bytes p.committed
fetch_part p b x offset limit recorded tier size stop bytes q at s clean e =
    part_of p b x offset limit size stop bytes at s clean (is_run_of p x offset limit recorded tier size stop bytes q e)

-- a part of what begins a list is a part of the list
part_more : (offset : ℕ) (bytes : List ℕ) (log more : List (List ℕ)) → IsPrefix log more → IsPartAt offset bytes log → IsPartAt offset bytes more
part_more offset bytes log more p h = record {
  front = h.front;
  first = h.first;
  others = h.others;
  rest = h.rest ++ p.0;
  parts = sym p.1 ∙ (ap (λ (k : List (List ℕ)). k ++ p.0) h.parts ∙ (append_assoc h.front ((h.first ∷ h.others) ++ h.rest) p.0
      ∙ ap (λ (k : List (List ℕ)). h.front ++ k) (append_assoc (h.first ∷ h.others) h.rest p.0)));
  is = h.is;
  low = h.low;
  high = h.high;
}

-- what is made of a fetch's answer
abbrev pub row_of_fetch : State → Order → Broker → ℕ → ℕ → Option PlainSnapshot → Answer → Option State
row_of_fetch p order x offset limit recorded answer =
    unless (refusal_at p order.broker.0 x recorded (Fetch offset limit)) answer p (fetch_row p x offset limit recorded answer)

-- the row of an entry that answers a fetch with a run
record FetchOf (p : State) (order : Order) (offset limit : ℕ) (answer : Answer) : Type 0 where
  broker : Broker
  at : slice_get p.brokers order.broker.0 ≡ Some broker
  recorded : Option PlainSnapshot
  begun : StartIsSafe p broker recorded (Fetch offset limit)
  next : State
  row_is : row_of_fetch p order broker offset limit recorded answer ≡ Some next

fetch_of : (p : State) (order : Order) (entry : JournalEntry) (q : State) (offset limit : ℕ) (answer : Answer) → step p order entry ≡ Some q → PlainSafe p
    → order.command ≡ Fetch offset limit → entry.event ≡ Answers answer → FetchOf p order offset limit answer
fetch_of p order entry q offset limit answer e s command event =
    let h = step_of p order entry q e in
    let answers : event_step p entry.actor.0 (actor_at p.actors entry.actor.0) order h.broker h.replica (Answers answer) ≡ Some q =
    subst (λ (k : Event). event_step p entry.actor.0 (actor_at p.actors entry.actor.0) order h.broker h.replica k ≡ Some q) event h.event in
    let w = map_some _ (row p order.broker.0 h.broker h.replica (actor_at p.actors entry.actor.0).snapshot order.command answer) q answers in
    record {
      broker = h.broker;
      at = h.at;
      recorded = (actor_at p.actors entry.actor.0).snapshot;
      begun = subst (λ (k : Command). StartIsSafe p h.broker (actor_at p.actors entry.actor.0).snapshot k) command
          (begun_safe p entry.actor.0 order h.broker (actor_at p.actors entry.actor.0).snapshot h.at s refl h.recorded);
      next = w.0;
      row_is = subst (λ (k : Command). row p order.broker.0 h.broker h.replica (actor_at p.actors entry.actor.0).snapshot k answer ≡ Some w.0) command w.1;
    }

-- a run isn't a refusal, so the fetch was let
fetch_let : (p : State) (order : Order) (x : Broker) (offset limit : ℕ) (recorded : Option PlainSnapshot) (tier : Tier) (size : ℕ) (stop : Stop) (bytes : List ℕ) (q : State)
    → row_of_fetch p order x offset limit recorded (Run tier size stop bytes) ≡ Some q
    → (refusal_at p order.broker.0 x recorded (Fetch offset limit) ≡ None) × (fetch_row p x offset limit recorded (Run tier size stop bytes) ≡ Some q)
fetch_let p order x offset limit recorded tier size stop bytes q e = go (refusal_at p order.broker.0 x recorded (Fetch offset limit)) refl e
  where
    go : (why : Option Answer) → refusal_at p order.broker.0 x recorded (Fetch offset limit) ≡ why
        → unless why (Run tier size stop bytes) p (fetch_row p x offset limit recorded (Run tier size stop bytes)) ≡ Some q
        → (refusal_at p order.broker.0 x recorded (Fetch offset limit) ≡ None) × (fetch_row p x offset limit recorded (Run tier size stop bytes) ≡ Some q)
    go None is i = (is, i)
    go (Some reason) is i = absurd cc

entry_part : (p : State) (order : Order) (entry : JournalEntry) (q : State) (offset limit : ℕ) (tier : Tier) (size : ℕ) (stop : Stop) (bytes : List ℕ)
    → step p order entry ≡ Some q → PlainSafe p → p.unclean ≡ false → order.command ≡ Fetch offset limit → entry.event ≡ Answers (Run tier size stop bytes)
    → IsPartAt offset bytes p.committed
entry_part p order entry q offset limit tier size stop bytes e s clean command event =
    let f = fetch_of p order entry q offset limit (Run tier size stop bytes) e s command event in
    let w = fetch_let p order f.broker offset limit f.recorded tier size stop bytes f.next f.row_is in
    fetch_part p order.broker.0 f.broker offset limit f.recorded tier size stop bytes f.next f.at s clean w.1

entry_led : (p : State) (order : Order) (entry : JournalEntry) (q : State) (offset limit : ℕ) (tier : Tier) (size : ℕ) (stop : Stop) (bytes : List ℕ)
    → step p order entry ≡ Some q → PlainSafe p → order.command ≡ Fetch offset limit → entry.event ≡ Answers (Run tier size stop bytes)
    → IsPartOfPath p.paths offset bytes
entry_led p order entry q offset limit tier size stop bytes e s command event =
    let f = fetch_of p order entry q offset limit (Run tier size stop bytes) e s command event in
    let w = fetch_let p order f.broker offset limit f.recorded tier size stop bytes f.next f.row_is in
    fetch_led p order.broker.0 f.broker offset limit f.recorded tier size stop bytes f.next f.at s f.begun w.0 w.1

-- a part of a path is one of the path that it grew to
path_more : (ps qs : List Path) (offset : ℕ) (bytes : List ℕ) → Wider ps qs → IsPartOfPath ps offset bytes → IsPartOfPath qs offset bytes
path_more ps qs offset bytes w h =
    let k = w h.0 h.1 h.2 in
    (h.0, k.0, k.1, part_more offset bytes h.1 k.0 k.2 h.3)

-- over a replay

-- what a replay keeps: the safety rules, the paths but for their growth, and while elections are clean what is committed
pub record ReplayGoes (p q : State) : Type 0 where
  pub safe : PlainSafe q
  pub wider : Wider p.paths q.paths
  pub grows : q.unclean ≡ false → IsPrefix p.committed q.committed
  pub clean : q.unclean ≡ false → p.unclean ≡ false

pub replay_goes : (lists : List ActorList) (p : State) (journal : List JournalEntry) (q : State) → replay lists p journal ≡ Some q → PlainSafe p → ReplayGoes p q
replay_goes lists p [] q e s =
    let is : p ≡ q = cc (e) in
    subst (λ (k : State). ReplayGoes p k) is (record { safe = s; wider = wider_self p.paths; grows = λ _. prefix_self p.committed; clean = λ u. u })
replay_goes lists p (entry ∷ journal) q e s =
    let m = and_then_some (λ (w : State). replay lists w journal) (entry_step lists p entry) q e in
    let o = and_then_some (λ (w : Order). step p w entry) (order_of lists entry) m.0 m.1 in
    let one = step_goes p o.0 entry m.0 o.2 s in
    let more = replay_goes lists m.0 journal q m.2 one.safe in
    record {
      safe = more.safe;
      wider = wider_trans p.paths m.0.paths q.paths one.wider more.wider;
      grows = λ u. prefix_trans p.committed m.0.committed q.committed (one.grows (one.clean (more.clean u)).1) (more.grows u);
      clean = λ u. (one.clean (more.clean u)).0;
    }

-- what is committed stays where no step begins it again
pub replay_stays : (lists : List ActorList) (p : State) (journal : List JournalEntry) (q : State) → replay lists p journal ≡ Some q → PlainSafe p
    → AllByRecursion (IsNoRestart lists) journal → IsPrefix p.committed q.committed
replay_stays lists p [] q e s none =
    let is : p ≡ q = cc (e) in
    subst (λ (k : State). IsPrefix p.committed k.committed) is (prefix_self p.committed)
replay_stays lists p (entry ∷ journal) q e s none =
    let m = and_then_some (λ (w : State). replay lists w journal) (entry_step lists p entry) q e in
    let o = and_then_some (λ (w : Order). step p w entry) (order_of lists entry) m.0 m.1 in
    let one = step_goes p o.0 entry m.0 o.2 s in
    prefix_trans p.committed m.0.committed q.committed (one.grows (none.0 o.0 o.1)) (replay_stays lists m.0 journal q m.2 one.safe none.1)

pub replay_runs : (lists : List ActorList) (p : State) (journal : List JournalEntry) (q : State) → replay lists p journal ≡ Some q → PlainSafe p → q.unclean ≡ false
    → AllByRecursion (IsCommittedRun lists q.committed) journal
replay_runs lists p [] q e s clean = tt
replay_runs lists p (entry ∷ journal) q e s clean =
    let m = and_then_some (λ (w : State). replay lists w journal) (entry_step lists p entry) q e in
    let o = and_then_some (λ (w : Order). step p w entry) (order_of lists entry) m.0 m.1 in
    let safe = step_safe p o.0 entry m.0 o.2 s in
    let all = replay_goes lists p (entry ∷ journal) q e s in (
      (λ order offset limit tier size stop bytes at command event.
          let same : o.0 ≡ order = cc (o.1, at) in
          part_more offset bytes p.committed q.committed (all.grows clean)
          (entry_part p o.0 entry m.0 offset limit tier size stop bytes o.2 s (all.clean clean) (ap (λ (k : Order). k.command) same ∙ command) event)),
      replay_runs lists m.0 journal q m.2 safe clean,
    )

pub replay_led : (lists : List ActorList) (p : State) (journal : List JournalEntry) (q : State) → replay lists p journal ≡ Some q → PlainSafe p
    → AllByRecursion (IsRunOfPath lists q.paths) journal
replay_led lists p [] q e s = tt
replay_led lists p (entry ∷ journal) q e s =
    let m = and_then_some (λ (w : State). replay lists w journal) (entry_step lists p entry) q e in
    let o = and_then_some (λ (w : Order). step p w entry) (order_of lists entry) m.0 m.1 in
    let all = replay_goes lists p (entry ∷ journal) q e s in (
      (λ order offset limit tier size stop bytes at command event.
          let same : o.0 ≡ order = cc (o.1, at) in
          path_more p.paths q.paths offset bytes all.wider
          (entry_led p o.0 entry m.0 offset limit tier size stop bytes o.2 s (ap (λ (k : Order). k.command) same ∙ command) event)),
      replay_led lists m.0 journal q m.2 (step_safe p o.0 entry m.0 o.2 s),
    )

-- along a log epochs never fall: each batch is on the path of the next one's epoch
pub log_rises : (p : State) (log front : List (List ℕ)) (batch next : List ℕ) → PlainSafe p → LogSafe p.paths log
    → IsPrefix ((front ++ batch ∷ []) ++ next ∷ []) log → epoch_of batch ≤ epoch_of next
log_rises p log front batch next s h q =
    let m = h.matching (front ++ batch ∷ []) next q in
    (s.paths (epoch_of next) m.0 m.1).epochs front batch (prefix_trans (front ++ batch ∷ []) ((front ++ batch ∷ []) ++ next ∷ []) m.0 (next ∷ [], refl) m.2)
