use Rattle.std.proofs.Common.{drop, arith}
use Rattle.remote_view.proofs.Lifted.{is_lifted, lifted_run}
use Rattle.remote_view.proofs.epoch_ranges.EpochRanges.lifted.Goals as goal

pub invariant_of-result : goal.invariant_of-result
invariant_of-result c = record {
  within = omega arith;
  all = lifted_run c.args.id.now (drop c.self.inside.gone c.self.inside.treads) c.in_ok-treads.treads c.self.inside.run.from c.self.inside.run.to c.max.result c.args.end
      (is_lifted c.args.id.now (drop c.self.inside.gone c.self.inside.treads) c.in_ok-treads.treads (rw c.self.view_is c.requires.rises) (rw (c.treads.ensures, ← c.self.view_is) at c.in_ok-treads.ensures))
      c.max.ensures (rw c.self.view_is c.requires.ends) c.self.invariant.all;
}

pub returns : goal.returns
returns c = is_lifted c.args.id.now c.args.self.now c.in_ok-treads.treads c.requires.rises (rw c.treads.ensures at c.in_ok-treads.ensures)
