use Rattle.std.proofs.lemmas.Result.{IfOk-weaker}
use Rattle.plain_executor.proofs.Verdicts.{verdict_told}
use Rattle.plain_executor.proofs.trace.first_refused.Goals as goal

pub returns : goal.returns
returns c =
    IfOk-weaker c.take_all-place.result _ _ (λ place h. verdict_told c.args.config.now c.args.lists.now c.args.journal.now c.in_ok-plain.plain c.take_all-place.new.plain place c.in_ok-plain.ensures h) c.take_all-place.ensures
