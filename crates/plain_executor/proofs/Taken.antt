-- A step of the state, as the plain log has it.
use Rattle.std.proofs.Common.{◌≡◌, refl, ap, sym, subst, ◌∙◌, ℕ, Some, None, Option, Bool, true, false, List}
use Rattle.std.specs.Prelude.{slice_get, is_some}
use Rattle.log_terms.proofs.Lists.{set-same}
use Rattle.registry.specs.declared.registry.Replica.{Replica}
use Rattle.registry.specs.Calls.{when}
use Rattle.plain_log.specs.declared.command.Command.{Command}
use Rattle.plain_log.specs.declared.command.Order.{Order}
use Rattle.plain_log.specs.declared.journal.Event.TheVariants.{Begins}
use Rattle.plain_log.specs.declared.journal.JournalEntry.{JournalEntry}
use Rattle.plain_log.specs.declared.state.Actor.{Actor}
use Rattle.plain_log.specs.declared.state.Broker.{Broker}
use Rattle.plain_log.specs.declared.state.PlainSnapshot.{PlainSnapshot}
use Rattle.plain_log.specs.declared.state.State.{State}
use Rattle.plain_log.specs.State.{put_broker, with_actor, actor_at}
use Rattle.plain_log.specs.Rows.{refusal_at}
use Rattle.plain_log.specs.Step.{begins, recorded_of, event_step, next_actor, step}
use Rattle.plain_log.specs.Safe.{PlainSafe}
use Rattle.plain_log.specs.Laws.{StepsKeepSafe}
use Rattle.plain_executor.specs.Change.{changed, begun_at, is_begin}
use Rattle.plain_executor.specs.Stepped.{Stepped}
use Rattle.plain_executor.specs.declared.change.Change.{Change}
use Rattle.plain_executor.specs.declared.change.Change.TheVariants.{Same, Cuts}

-- the actor is at the entry
pub next_is : (p : State) (order : Order) (entry : JournalEntry) (t : Bool) → next_actor p order entry ≡ when t (actor_at p.actors entry.actor.0)
    → t ≡ true → next_actor p order entry ≡ Some (actor_at p.actors entry.actor.0)
next_is p order entry t is e = is ∙ rw e refl

-- a step by its event
pub by_event : (p q : State) (order : Order) (entry : JournalEntry) (t : Bool) (x : Broker) (s : Replica) (y : Actor)
    → slice_get p.brokers order.broker.0 ≡ Some x → slice_get p.registry.replicas order.broker.0 ≡ Some s → next_actor p order entry ≡ Some y
    → Stepped p q (event_step p entry.actor.0 y order x s entry.event) t → Stepped p q (step p order entry) t
by_event p q order entry t x s y bx rs na h =
    let e : step p order entry ≡ event_step p entry.actor.0 y order x s entry.event = rw (bx, rs, na) refl in
    subst (λ (o : Option State). Stepped p q o t) (sym e) h

-- what a command begins with puts its broker in place
pub begin_change : (p : State) (b : ℕ) (x : Broker) (s : Replica) (command : Command) (change : Change) → slice_get p.brokers b ≡ Some x
    → is_begin change ≡ true → changed p b x s command change ≡ put_broker p b (begun_at x change)
begin_change p b x s command Same bx is = ap (λ (z : List Broker). record p { brokers = z }) (sym (set-same p.brokers b x bx))
begin_change p b x s command (Cuts e count n) bx is = refl
begin_change p b x s command other bx is = absurd cc

-- nothing has begun
pub none_is : {A : Type 0} (o : Option A) → is_some o ≡ false → o ≡ None
none_is None e = refl
none_is (Some x) e = absurd cc

-- a command that begins
pub begun_step : (p q : State) (a : ℕ) (order : Order) (x : Broker) (s : Replica) (y : Actor) (cut : Option ℕ) (change : Change) (recorded : PlainSnapshot) (n : ℕ)
    → n ≡ y.number → slice_get p.brokers order.broker.0 ≡ Some x → y.snapshot ≡ None → refusal_at p order.broker.0 x None order.command ≡ None
    → begins p x order.command cut ≡ Some (begun_at x change)
    → is_begin change ≡ true → recorded ≡ recorded_of p order (begun_at x change)
    → q ≡ with_actor a (record { number = n; snapshot = Some recorded }) (changed p order.broker.0 x s order.command change)
    → event_step p a y order x s (Begins cut) ≡ Some q
begun_step p q a order x s y cut change recorded n num bx none free beg is recorded_is made =
    let put = begin_change p order.broker.0 x s order.command change bx is in
    rw (beg, none, free) (rw (made, recorded_is, put, num) refl)

-- the safety rules hold after a step
pub safe_after : (p q : State) (order : Order) (entry : JournalEntry) (t : Bool) → StepsKeepSafe → PlainSafe p
    → Stepped p q (step p order entry) t → PlainSafe q
safe_after p q order entry true law safe h = law p order entry q h safe
safe_after p q order entry false law safe h = subst (λ (z : State). PlainSafe z) (sym h.1) safe
