use Rattle.plain_executor.proofs.Verdicts.{state_tells}
use Rattle.plain_executor.proofs.trace.is_run.Goals as goal

pub returns-clause-run : goal.returns-clause-run
returns-clause-run c =
    state_tells c.args.config.now c.args.lists.now c.args.journal.now c.in_ok-last.last c.is_some.result c.in_ok-last.ensures c.is_some.ensures

pub returns-clause-ordered : goal.returns-clause-ordered
returns-clause-ordered c = λ t.
    let h = state_tells c.args.config.now c.args.lists.now c.args.journal.now c.in_ok-last.last c.is_some.result c.in_ok-last.ensures c.is_some.ensures in
    c.runs_answer_in_order.ensures c.args.config.now c.args.lists.now c.args.journal.now (h.0 t)
