use Rattle.std.proofs.Common.{arith}
use Rattle.batch_prims.proofs.Braiding.{half-by-shares}
use Rattle.batch_prims.proofs.Entries.{entry_4, entry_3, entry_2, entry_1}
use Rattle.batch_prims.proofs.braided.on_by_one.Goals as goal

pub returns : goal.returns
returns c =
    half-by-shares 8 c.args.word _ _ _ _
    (entry_4 _ (omega arith))
    (entry_3 _ (omega arith))
    (entry_2 _ (omega arith))
    (entry_1 _ (omega arith))
