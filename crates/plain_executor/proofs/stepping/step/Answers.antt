use Rattle.std.proofs.Common.{◌≡◌, sym, subst, arith, Some}
use Rattle.log_terms.proofs.Lists.{look}
use Rattle.plain_log.specs.State.{actor_at}
use Rattle.plain_log.specs.Step.{event_step, next_actor}
use Rattle.plain_log.specs.declared.journal.Event.{Event}
use Rattle.plain_executor.specs.Stepped.{Stepped}
use Rattle.plain_executor.proofs.Taken.{next_is, by_event}
use Rattle.plain_executor.proofs.stepping.step.Goals as goal

pub returns-in_ok-taken-in-Begins-clause-ok : goal.returns-in_ok-taken-in-Begins-clause-ok
returns-in_ok-taken-in-Begins-clause-ok c =
    let p = c.args.p.now in
    let order = c.args.order.now in
    let entry = c.args.entry.now in
    let y = actor_at p.actors entry.actor.0 in
    let bx = look p.brokers order.broker.0 (omega arith) in
    let rs = look p.registry.replicas order.broker.0 (omega arith) in
    let na : next_actor p order entry ≡ Some y = next_is p order entry c.is_next.result c.is_next.ensures c.if-not-is_next.false in
    let ok = c.in_ok-taken-in-Begins.ensures in
    by_event p c.begin.new.p order entry c.in_ok-taken-in-Begins.taken bx.0 rs.0 y bx.1 rs.1 na
    (subst (λ (z : Event). Stepped p c.begin.new.p (event_step p entry.actor.0 y order bx.0 rs.0 z) c.in_ok-taken-in-Begins.taken) (sym c.in-Begins.is)
    (ok.ok bx.0 rs.0 bx.1 rs.1))

pub returns-in_ok-taken-in-Answers-clause-ok : goal.returns-in_ok-taken-in-Answers-clause-ok
returns-in_ok-taken-in-Answers-clause-ok c =
    let p = c.args.p.now in
    let order = c.args.order.now in
    let entry = c.args.entry.now in
    let y = actor_at p.actors entry.actor.0 in
    let bx = look p.brokers order.broker.0 (omega arith) in
    let rs = look p.registry.replicas order.broker.0 (omega arith) in
    let na : next_actor p order entry ≡ Some y = next_is p order entry c.is_next.result c.is_next.ensures c.if-not-is_next.false in
    let ok = c.in_ok-taken-in-Answers.ensures in
    by_event p c.answer.new.p order entry c.in_ok-taken-in-Answers.taken bx.0 rs.0 y bx.1 rs.1 na
    (subst (λ (z : Event). Stepped p c.answer.new.p (event_step p entry.actor.0 y order bx.0 rs.0 z) c.in_ok-taken-in-Answers.taken) (sym c.in-Answers.is)
    (ok.ok bx.0 rs.0 bx.1 rs.1))
