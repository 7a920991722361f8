use Rattle.std.proofs.Common.{sym, subst}
use Rattle.plain_executor.specs.Complete.{AreCounts}
use Rattle.plain_executor.proofs.Tally.{complete_tells}
use Rattle.plain_executor.proofs.complete.is_complete.Goals as goal

pub returns : goal.returns
returns c = complete_tells c.args.lists.now c.args.journal.now c.as_slice.result.now c.in_ok-complete.complete
    (subst (AreCounts c.args.lists.now) (sym c.as_slice.ensures.value) c.in_ok-counts.ensures) c.in_ok-complete.ensures
