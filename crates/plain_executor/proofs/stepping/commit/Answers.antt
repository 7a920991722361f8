use Rattle.std.proofs.Common.{◌≡◌, ap, ◌∙◌, sym, List}
use Rattle.plain_log.specs.declared.state.Actor.{Actor}
use Rattle.plain_log.specs.declared.state.State.{State}
use Rattle.plain_log.specs.State.{put_actor}
use Rattle.plain_executor.specs.Change.{changed}
use Rattle.plain_executor.proofs.Actors.{actors_same, actors_aside}
use Rattle.plain_executor.proofs.stepping.commit.Goals as goal

pub returns-in-Ok-clause-ok : goal.returns-in-Ok-clause-ok
returns-in-Ok-clause-ok c = λ x s bx rs.
    let made = c.in-Ok.ensures.ok x s bx rs in
    let b = c.args.order.now.broker.0 in
    let command = c.args.order.now.command in
    let next = changed c.args.p.now b x s command c.args.change in
    let were = c.reserve.ensures.items ∙ (c.into_vec-actors.ensures ∙ c.replace.ensures.value) in
    let are : c.from_vec-in-Ok.result ≡ put_actor c.args.p.now.actors c.args.id.0 c.args.actor =
    c.from_vec-in-Ok.ensures ∙ (c.put_actor.ensures ∙ ap (λ (z : List Actor). put_actor z c.args.id.0 c.args.actor) were) in
    ap (λ (z : State). record z { actors = c.from_vec-in-Ok.result }) made
    ∙ (actors_aside c.args.p.now b x s command c.args.change c.replace.new.dest c.from_vec-in-Ok.result
    ∙ ap (λ (z : List Actor). record next { actors = z })
    (are ∙ ap (λ (z : List Actor). put_actor z c.args.id.0 c.args.actor) (sym (actors_same c.args.p.now b x s command c.args.change))))
