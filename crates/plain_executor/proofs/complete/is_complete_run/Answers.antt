use Rattle.std.proofs.Common.{sym, ◌∙◌}
use Rattle.std.proofs.lemmas.Result.{IfOk-weaker}
use Rattle.plain_executor.proofs.complete.is_complete_run.Goals as goal

pub returns : goal.returns
returns c =
    IfOk-weaker c.ends_complete-complete.result _ _ (λ is h. h c.args.config.now c.args.journal.now (sym c.in_ok-plain.ensures ∙ c.in-Some.is)) c.ends_complete-complete.ensures
