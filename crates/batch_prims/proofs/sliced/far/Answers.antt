use Rattle.std.proofs.Common.{arith}
use Rattle.batch_prims.proofs.Entries.{entry_9, entry_10, entry_11, entry_12, entry_13, entry_14, entry_15, entry_16}
use Rattle.batch_prims.proofs.Taking.{word-by-shares}
use Rattle.batch_prims.proofs.sliced.far.Goals as goal

pub returns : goal.returns
returns c =
    word-by-shares 72 c.args.word _ _ _ _ _ _ _ _
    (entry_16 _ (omega arith))
    (entry_15 _ (omega arith))
    (entry_14 _ (omega arith))
    (entry_13 _ (omega arith))
    (entry_12 _ (omega arith))
    (entry_11 _ (omega arith))
    (entry_10 _ (omega arith))
    (entry_9 _ (omega arith))
