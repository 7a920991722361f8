use Rattle.disk_model.proofs.Patches.{block_more}
use Rattle.disk_model.proofs.patch.count_same.Goals as goal

pub loop-block-preserved : goal.loop-block-preserved
loop-block-preserved c = block_more c.args.old.now c.args.new.now c.loop-block.block c.loop-block.invariant c.if-ne.ensures
