use Rattle.std.proofs.Common.{arith}
use Rattle.std.proofs.lemmas.Grind.{common_steps}
use Rattle.plain_executor.proofs.Joined.{joined_at}
use Rattle.plain_executor.proofs.reads.is_joined.Goals as goal

pub returns-then-ne : goal.returns-then-ne
returns-then-ne c =
    let e = joined_at c.args.log.now c.loop-i.i c.get-batch.result.now c.loop-i.rest.now c.get-batch.ensures (omega arith) in
    grind (arith, common_steps, e)

pub loop-i-preserved : goal.loop-i-preserved
loop-i-preserved c =
    let e = joined_at c.args.log.now c.loop-i.i c.get-batch.result.now c.loop-i.rest.now c.get-batch.ensures (omega arith) in
    grind (arith, common_steps, e)
