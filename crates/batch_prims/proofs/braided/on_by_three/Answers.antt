use Rattle.std.proofs.Common.{arith}
use Rattle.batch_prims.proofs.Braiding.{half-by-shares}
use Rattle.batch_prims.proofs.Entries.{entry_12, entry_11, entry_10, entry_9}
use Rattle.batch_prims.proofs.braided.on_by_three.Goals as goal

pub returns : goal.returns
returns c =
    half-by-shares 72 c.args.word _ _ _ _
    (entry_12 _ (omega arith))
    (entry_11 _ (omega arith))
    (entry_10 _ (omega arith))
    (entry_9 _ (omega arith))
