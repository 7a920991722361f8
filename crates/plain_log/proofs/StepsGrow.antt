-- With each step paths grow, the log start offset doesn't fall, and logs are cut or gain batches.
use Rattle.log_terms.proofs.Lists.{and_then_some}
use Rattle.plain_log.proofs.Options.{when_some, map_some}
use Rattle.plain_log.specs.Rows.{refusal_at, effect, row}
use Rattle.plain_log.specs.RowsOfReads.{is_long}
use Rattle.plain_log.specs.declared.answer.Answer.TheVariants.{IsUp}
use Rattle.plain_log.specs.Safe.{PlainSafe}
use Rattle.plain_log.specs.State.{put_broker, actor_at, with_actor}
use Rattle.plain_log.specs.Step.{begins, may_begin, is_recorded, event_step}
use Rattle.plain_log.specs.declared.answer.Answer.{Answer}
use Rattle.plain_log.specs.declared.answer.Answer.TheVariants.{Offset, Up}
use Rattle.plain_log.specs.declared.command.Command.{Command}
use Rattle.plain_log.specs.declared.command.Command.TheVariants.{Append, Raw, Flush, Roll, Elect, Unclean, Learn, Join, Follow, Ack, Shrink, Expand, Copy, Trim, Expire, Raise, Clock, Stop, Up, Fetch, Pack, Copying, Offset}
use Rattle.plain_log.specs.declared.command.Order.{Order}
use Rattle.plain_log.specs.declared.journal.Event.{Event}
use Rattle.plain_log.specs.declared.journal.Event.TheVariants.{Begins, Answers}
use Rattle.plain_log.specs.declared.state.Actor.{Actor}
use Rattle.plain_log.specs.declared.state.Broker.{Broker}
use Rattle.plain_log.specs.declared.state.PlainSnapshot.{PlainSnapshot}
use Rattle.plain_log.specs.declared.state.State.{State}
use Rattle.record_batch.specs.Build.{built}
use Rattle.registry.specs.Calls.{when}
use Rattle.registry.specs.declared.registry.Replica.{Replica}
use Rattle.std.proofs.Common.{◌≡◌, subst, refl, ℕ, Some, None, Option, slice_get, true, ap, ◌∙◌}
use Rattle.std.proofs.lemmas.Option.{none-some}
use Rattle.std.specs.Option.{option_and_then}
use Rattle.plain_log.specs.Grows.{BrokerGrows}
use Rattle.plain_log.specs.Laws.{StepsGrow}
use Rattle.plain_log.proofs.StepLaw.{StartIsSafe, begun_safe, joined_for_join, joined_for_follow, step_of, step_goes}
use Rattle.plain_log.proofs.RowGrows.{RowGrows, like, same, put_grows, cut_grows}
use Rattle.plain_log.proofs.RowsGrow.{ack_grows, append_grows, elect_grows, expand_grows, expire_grows, flush_grows, follow_grows, join_grows, learn_grows, raise_grows, roll_grows, shrink_grows, stop_grows, trim_grows, unclean_grows, up_grows}
use Rattle.plain_log.proofs.ReadRows.{copy_same, fetch_same, offset_same, silent_same}
use Rattle.plain_log.proofs.FollowerRows.{may_join, may_follow}
use Rattle.plain_log.proofs.TierRows.{may_raise}
use Rattle.plain_log.proofs.Tests.{by_tests, passed}

-- a row that changes nothing
as_before : (p q : State) → p ≡ q → RowGrows p q
as_before p q is = subst (λ (k : State). RowGrows p k) is (same p)

-- what is done makes them grow
effect_grows : (p : State) (b : ℕ) (x : Broker) (r : Replica) (recorded : Option PlainSnapshot) (command : Command) (answer : Answer) (q : State)
    → slice_get p.brokers b ≡ Some x → StartIsSafe p x recorded command
    → refusal_at p b x recorded command ≡ None → effect p b x r recorded command answer ≡ Some q → PlainSafe p → RowGrows p q
effect_grows p b x r recorded (Append recs) answer q bx j none e s = append_grows p b x (built recs) answer q bx e s
effect_grows p b x r recorded (Raw bytes) answer q bx j none e s = append_grows p b x bytes answer q bx e s
effect_grows p b x r recorded Flush answer q bx j none e s = flush_grows p b x answer q bx e s
effect_grows p b x r recorded Roll answer q bx j none e s = roll_grows p b x answer q bx e s
effect_grows p b x r recorded Elect answer q bx j none e s = elect_grows p b answer q e s
effect_grows p b x r recorded Unclean answer q bx j none e s = unclean_grows p b x answer q e s
effect_grows p b x r recorded Learn answer q bx j none e s = learn_grows p b x answer q bx e s
effect_grows p b x r recorded Join answer q bx j none e s =
    join_grows p b x recorded answer q bx (may_join p b x recorded none (joined_for_join p x recorded j)) e s
effect_grows p b x r recorded (Follow limit) answer q bx j none e s =
    follow_grows p b x limit recorded answer q bx (may_follow p b x recorded limit none (joined_for_follow p x recorded limit j)) e s
effect_grows p b x r recorded Ack answer q bx j none e s = ack_grows p b x r answer q bx e s
effect_grows p b x r recorded Shrink answer q bx j none e s = shrink_grows p b r answer q e s
effect_grows p b x r recorded Expand answer q bx j none e s = expand_grows p b r answer q e s
effect_grows p b x r recorded Copy answer q bx j none e s = as_before p q (copy_same p recorded answer q e)
effect_grows p b x r recorded Trim answer q bx j none e s = trim_grows p b x recorded answer q bx e s
effect_grows p b x r recorded Expire answer q bx j none e s = expire_grows p recorded answer q e s
effect_grows p b x r recorded (Raise start) answer q bx j none e s = raise_grows p start answer q (may_raise p b x start none).above e s
effect_grows p b x r recorded (Clock ms) answer q bx j none e s = as_before p q (silent_same p answer q e)
effect_grows p b x r recorded Stop answer q bx j none e s = stop_grows p b x answer q bx e s
effect_grows p b x r recorded Up answer q bx j none e s = up_grows p b x answer q bx (passed x.up IsUp none) e s
effect_grows p b x r recorded (Fetch offset limit) answer q bx j none e s = as_before p q (fetch_same p x offset limit recorded answer q e)
effect_grows p b x r recorded (Pack on) answer q bx j none e s = as_before p q (silent_same p answer q e)
effect_grows p b x r recorded (Copying on) answer q bx j none e s = as_before p q (silent_same p answer q e)
effect_grows p b x r recorded (Offset which) answer q bx j none e s = as_before p q (offset_same p x which recorded answer q e)

-- each row makes them grow
pub row_grows : (p : State) (b : ℕ) (x : Broker) (r : Replica) (recorded : Option PlainSnapshot) (command : Command) (answer : Answer) (q : State)
    → slice_get p.brokers b ≡ Some x → StartIsSafe p x recorded command → row p b x r recorded command answer ≡ Some q → PlainSafe p → RowGrows p q
row_grows p b x r recorded command answer q bx j e s =
    by_tests (RowGrows p) p q (refusal_at p b x recorded command) answer (effect p b x r recorded command answer) e (λ reason is. same p)
    (λ none done. effect_grows p b x r recorded command answer q bx j none done s)

as_it_is : (p : State) (x z : Broker) → x ≡ z → BrokerGrows p.paths x z
as_it_is p x z is = subst (λ (y : Broker). BrokerGrows p.paths x y) is (like p.paths x x refl refl refl)

-- where a command begins
begun_grows : (p : State) (x : Broker) (c : Command) (cut : Option ℕ) (z : Broker) → begins p x c cut ≡ Some z → BrokerGrows p.paths x z
begun_grows p x Join (Some n) z e = cut_grows p x n z e
begun_grows p x (Follow limit) None z e = as_it_is p x z cc
begun_grows p x Copy None z e = as_it_is p x z cc
begun_grows p x Trim None z e = as_it_is p x z cc
begun_grows p x Expire None z e = as_it_is p x z cc
begun_grows p x (Fetch offset limit) None z e = as_it_is p x z cc
begun_grows p x (Offset which) None z e = as_it_is p x z (when_some (is_long which) x z e).1
begun_grows p x other cut z e = absurd (none-some z e)

-- an actor's own numbers are no matter
with_actor_grows : (p q : State) (a : ℕ) (y : Actor) → RowGrows p q → RowGrows p (with_actor a y q)
with_actor_grows p q a y g = record { start = g.start; count = g.count; brokers = g.brokers }

event_grows : (p : State) (a : ℕ) (order : Order) (x : Broker) (r : Replica) (event : Event) (q : State)
    → slice_get p.brokers order.broker.0 ≡ Some x → slice_get p.registry.replicas order.broker.0 ≡ Some r
    → is_recorded (actor_at p.actors a).snapshot order ≡ true
    → event_step p a (actor_at p.actors a) order x r event ≡ Some q → PlainSafe p → RowGrows p q
event_grows p a order x r (Begins cut) q bx br recorded e s =
    let w = map_some _ (option_and_then (λ (z : Broker). when (may_begin p order.broker.0 x (actor_at p.actors a) order.command) z) (begins p x order.command cut)) q e in
    let f = and_then_some _ (begins p x order.command cut) w.0 w.1 in
    let v = when_some _ _ w.0 f.2 in
    let is : begins p x order.command cut ≡ Some w.0 = f.1 ∙ ap Some v.1 in
    subst (λ (k : State). RowGrows p k) w.2
    (with_actor_grows p (put_broker p order.broker.0 w.0) a _ (put_grows p order.broker.0 x w.0 bx (begun_grows p x order.command cut w.0 is)))
event_grows p a order x r (Answers answer) q bx br recorded e s =
    let w = map_some _ (row p order.broker.0 x r (actor_at p.actors a).snapshot order.command answer) q e in
    let snapshot = begun_safe p a order x (actor_at p.actors a).snapshot bx s refl recorded in
    subst (λ (k : State). RowGrows p k) w.2 (with_actor_grows p w.0 a _
    (row_grows p order.broker.0 x r (actor_at p.actors a).snapshot order.command answer w.0 bx snapshot w.1 s))

-- each step grows
pub steps_grow : StepsGrow
steps_grow p order entry q e s =
    let h = step_of p order entry q e in
    let g = event_grows p entry.actor.0 order h.broker h.replica entry.event q h.at h.place h.recorded h.event s in
    record { paths = (step_goes p order entry q e s).wider; start = g.start; count = g.count; brokers = g.brokers }
