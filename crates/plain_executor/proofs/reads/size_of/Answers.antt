use Rattle.std.proofs.Common.{arith}
use Rattle.plain_executor.proofs.Joined.{length_at}
use Rattle.plain_executor.proofs.reads.size_of.Goals as goal

pub loop-i-preserved : goal.loop-i-preserved
loop-i-preserved c =
    let e = length_at c.args.log.now c.loop-i.i c.get.result.now c.get.ensures in
    record {
      sum = omega (arith, e);
      small = omega arith;
    }
