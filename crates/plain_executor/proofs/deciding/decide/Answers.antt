use Rattle.std.proofs.Common.{sym, ◌∙◌}
use Rattle.plain_executor.proofs.Refused.{refused_row, done_row}
use Rattle.plain_executor.proofs.deciding.decide.Goals as goal

pub returns-in-Some : goal.returns-in-Some
returns-in-Some c =
    refused_row c.args.p.now c.args.b c.args.x.now c.args.s.now c.args.command.now _ c.args.answer.now c.in-Some.why _ c.refuses.result
    (sym c.refused.ensures ∙ c.in-Some.is) c.refuses.ensures

pub returns-in-None : goal.returns-in-None
returns-in-None c = done_row c.args.p.now _ c.args.answer.now _ _ (sym c.refused.ensures ∙ c.in-None.is) c.effect.ensures
