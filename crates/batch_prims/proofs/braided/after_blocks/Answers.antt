use Rattle.std.proofs.Common.{refl}
use Rattle.batch_prims.proofs.Braiding.{alone}
use Rattle.batch_prims.proofs.braided.after_blocks.Goals as goal

pub loop-rest-init : goal.loop-rest-init
loop-rest-init c = record {
  stand = (0xFFFFFFFF, (alone 0xFFFFFFFF, refl));
  more = c.requires;
}
