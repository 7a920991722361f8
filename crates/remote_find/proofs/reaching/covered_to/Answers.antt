use Rattle.remote_find.proofs.Epochs.{covered_once}
use Rattle.remote_find.proofs.reaching.covered_to.Goals as goal

pub returns-then-end-place : goal.returns-then-end-place
returns-then-end-place c =
    covered_once c.args.view.now.entries c.args.line.now c.args.log_end c.args.at c.loop-place.place c.entries-entries.ensures.kept c.entries-entries.ensures.distinct c.entries-line.ensures.line
    (c.is_within.ensures c.if-not-is_within.false) (record { from = c.loop-place.invariant.from; each = c.loop-place.invariant.each; none = c.end_in_epoch-end.ensures.none c.if-end-place.true })
