use Rattle.std.proofs.Common.{◌≡◌, ap, sym, subst, ◌∙◌, refl, Some, None, Option, true, false}
use Rattle.std.specs.Prelude.{option_map, is_some}
use Rattle.plain_log.specs.declared.journal.Event.TheVariants.{Begins}
use Rattle.plain_log.specs.declared.answer.Answer.{Answer}
use Rattle.plain_log.specs.declared.state.Broker.{Broker}
use Rattle.plain_log.specs.State.{actor_at}
use Rattle.plain_log.specs.Rows.{refusal_at}
use Rattle.plain_log.specs.Step.{event_step}
use Rattle.plain_executor.specs.Change.{begun_at}
use Rattle.plain_executor.proofs.Refused.{not_begun}
use Rattle.plain_executor.proofs.Safety.{matches_paths}
use Rattle.plain_executor.proofs.Taken.{begun_step, none_is}
use Rattle.plain_executor.proofs.stepping.begin.Goals as goal

pub beginning-requires : goal.beginning-requires
beginning-requires c = matches_paths c.args.p.now c.args.order.now.broker.0 c.get-x.result.now c.requires.safe c.get-x.ensures

pub returns-then-is_some-clause-ok : goal.returns-then-is_some-clause-ok
returns-then-is_some-clause-ok c = λ x s bx rs.
    let b = c.args.order.now.broker.0 in
    let same : c.get-x.result.now ≡ x = cc (c.get-x.ensures, bx) in
    let there : is_some (refusal_at c.args.p.now b c.get-x.result.now None c.args.order.now.command) ≡ true =
    subst (λ (o : Option Answer). is_some o ≡ true) c.refused.ensures (sym c.is_some.ensures ∙ c.if-is_some.true) in
    let here : is_some (refusal_at c.args.p.now b x None c.args.order.now.command) ≡ true =
    subst (λ (z : Broker). is_some (refusal_at c.args.p.now b z None c.args.order.now.command) ≡ true) same there in
    (not_begun c.args.p.now c.args.id.0 c.args.order.now x s (actor_at c.args.p.now.actors c.args.id.0) c.args.cut here, refl)

pub returns-clause-ok : goal.returns-clause-ok
returns-clause-ok c = λ x s bx rs.
    let now = c.get-x.result.now in
    let same : now ≡ x = cc (c.get-x.ensures, bx) in
    let none = none_is (actor_at c.args.p.now.actors c.args.id.0).snapshot (sym c.has_begun.ensures ∙ c.if-has_begun.false) in
    let free : refusal_at c.args.p.now c.args.order.now.broker.0 now None c.args.order.now.command ≡ None =
    none_is _ (subst (λ (o : Option Answer). is_some o ≡ false) c.refused.ensures (sym c.is_some.ensures ∙ c.if-is_some.false)) in
    let beg = c.beginning.ensures.is ∙ ap (option_map (begun_at now)) c.in-Some.is in
    let few = c.in-Some.ensures in
    let recorded = c.in_ok-recorded.ensures in
    let made = c.in_ok-commit.ensures in
    subst (λ (z : Broker). event_step c.args.p.now c.args.id.0 (actor_at c.args.p.now.actors c.args.id.0) c.args.order.now z s (Begins c.args.cut) ≡ Some c.commit.new.p)
    same (begun_step c.args.p.now c.commit.new.p c.args.id.0 c.args.order.now now s (actor_at c.args.p.now.actors c.args.id.0) c.args.cut c.in-Some.change
    c.in_ok-recorded.recorded c.number.result c.number.ensures c.get-x.ensures none free beg few.few recorded (made.ok now s c.get-x.ensures rs))
