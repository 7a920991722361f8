use Rattle.std.proofs.Common.{sym, ◌∙◌}
use Rattle.std.proofs.lemmas.Bool.{and_parts, eqb-true}
use Rattle.remote_view.proofs.Treads.{put_joined, put_behind, apart, on_ok}
use Rattle.remote_view.proofs.laying.put.Goals as goal

pub returns-then-joins : goal.returns-then-joins
returns-then-joins c =
    let both = and_parts _ _ (sym c.joins.ensures ∙ c.if-joins.true) in
    on_ok c.push-then-joins.result c.push-then-joins.ensures.ok (λ new.
    rw new (put_joined c.args.from c.args.to c.args.id c.args.stair.now c.pop.new.self c.in-Some.last c.in-Some.ensures.items c.requires.rises c.requires.ends c.if-from-to.false
    (eqb-true _ _ both.0) both.1))

pub returns : goal.returns
returns c =
    on_ok c.push-3.result c.push-3.ensures.ok (λ new.
    rw (new, c.in_ok-push.ensures.ok) (put_behind c.args.from c.args.to c.args.id c.args.stair.now c.pop.new.self c.in-Some.last c.in-Some.ensures.items c.requires.rises c.requires.ends c.if-from-to.false
    (apart c.in-Some.last.to c.args.from _ (sym c.joins.ensures ∙ c.if-joins.false))))
