use Rattle.std.proofs.Common.{sym, subst}
use Rattle.plain_executor.specs.Complete.{AreCounts}
use Rattle.plain_executor.proofs.Completion.{complete_run_tells}
use Rattle.plain_executor.proofs.complete.ends_complete.Goals as goal

pub returns : goal.returns
returns c = λ config journal replays. complete_run_tells config c.args.lists.now journal c.as_slice.result.now c.args.plain.now c.are_at_end.result
    c.runs_end_complete.ensures replays
    (subst (AreCounts c.args.lists.now) (sym c.as_slice.ensures.value) c.in_ok-counts.ensures) c.are_at_end.ensures
