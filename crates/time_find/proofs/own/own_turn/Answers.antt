use Rattle.time_find.proofs.LocalRuns.{comes_up, starts_below, goes_from}
use Rattle.time_find.proofs.own.own_turn.Goals as goal

pub read_run-requires-clause-start : goal.read_run-requires-clause-start
read_run-requires-clause-start g c =
    starts_below c.args.log.now c.args.cursor c.passed_over-at.result c.requires.local
    (comes_up _ c.args.cursor c.passed_over-at.result c.closed.result.now c.passed_over-at.ensures)

pub returns-in-Ok-clause-goes : goal.returns-in-Ok-clause-goes
returns-in-Ok-clause-goes g c =
    goes_from c.args.cursor c.passed_over-at.result c.search_run.result
    (comes_up _ c.args.cursor c.passed_over-at.result c.closed.result.now c.passed_over-at.ensures) c.search_run.ensures.goes
