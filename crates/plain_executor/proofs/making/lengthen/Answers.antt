use Rattle.std.proofs.Common.{sym, subst, List, length, Some}
use Rattle.log_terms.proofs.Lists.{set-same}
use Rattle.plain_log.specs.declared.state.Path.{Path}
use Rattle.plain_executor.specs.Change.{NoneBefore, IsPathAt}
use Rattle.plain_executor.proofs.Outcomes.{on_err}
use Rattle.plain_executor.proofs.Longer.{longer_none, longer_found}
use Rattle.plain_executor.proofs.making.lengthen.Goals as goal

pub returns-in_ok-push-clause-ok : goal.returns-in_ok-push-clause-ok
returns-in_ok-push-clause-ok c =
    let h = subst (λ (z : List Path). IsPathAt z c.args.epoch (Some c.in-Some.at)) c.as_slice.ensures c.in-Some.ensures in
    let ok = c.in_ok-push.ensures in
    longer_found c.args.paths.now c.args.epoch c.args.batch c.in-Some.at c.at_mut.result.now c.push.new.self h c.at_mut.ensures.value ok.ok

pub returns-in_err-push-clause-err : goal.returns-in_err-push-clause-err
returns-in_err-push-clause-err c =
    let err = c.in_err-push.ensures in
    on_err _ c.from_residual.result (rw err.err (set-same c.args.paths.now c.in-Some.at c.at_mut.result.now c.at_mut.ensures.value))

pub returns-in_default-clause-ok : goal.returns-in_default-clause-ok
returns-in_default-clause-ok c =
    sym (longer_none c.args.paths.now c.args.epoch c.args.batch (subst (λ (z : List Path). NoneBefore z c.args.epoch (length z)) c.as_slice.ensures c.in_default.ensures))
