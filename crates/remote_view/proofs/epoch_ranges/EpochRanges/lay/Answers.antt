use Rattle.std.proofs.Common.{drop, arith}
use Rattle.remote_view.proofs.Running.{runs_on}
use Rattle.remote_view.proofs.epoch_ranges.EpochRanges.lay.Goals as goal

pub invariant_of-result : goal.invariant_of-result
invariant_of-result c = record {
  within = omega arith;
  all = runs_on c.args.known.now c.args.entry.now c.self.inside.run c.args.span c.grown-run.result (drop c.self.inside.gone c.self.inside.treads) c.in_ok-treads.treads c.self.invariant.all c.grown-run.ensures
      (rw (c.treads.ensures, ← c.self.view_is) at c.in_ok-treads.ensures);
}
