use Rattle.std.proofs.Common.{arith}
use Rattle.std.proofs.lemmas.Grind.{common_steps}
use Rattle.plain_executor.proofs.Parts.{drop_at}
use Rattle.plain_executor.proofs.reads.first_offset.Goals as goal

pub loop-i-preserved : goal.loop-i-preserved
loop-i-preserved c =
    let e = drop_at c.args.log.now c.loop-i.i c.get-batch.result.now c.get-batch.ensures in
    grind (arith, common_steps, e)
