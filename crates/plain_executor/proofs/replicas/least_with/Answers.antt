use Rattle.std.proofs.Common.{arith}
use Rattle.plain_executor.proofs.Least.{least_more}
use Rattle.plain_executor.proofs.replicas.least_with.Goals as goal

pub loop-at-preserved : goal.loop-at-preserved
loop-at-preserved c = record {
  within = omega arith;
  least = λ s is. least_more c.args.replicas.now c.args.b c.args.acked c.loop-at.at c.end_in.result s _ c.loop-at.least c.with_end-least.result
      c.loop-at-test.true c.loop-at.invariant.within is c.end_in.ensures c.with_end-least.ensures (c.loop-at.invariant.least s is);
}
