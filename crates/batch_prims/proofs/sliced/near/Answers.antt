use Rattle.std.proofs.Common.{arith}
use Rattle.batch_prims.proofs.Entries.{entry_1, entry_2, entry_3, entry_4, entry_5, entry_6, entry_7, entry_8}
use Rattle.batch_prims.proofs.Taking.{word-by-shares}
use Rattle.batch_prims.proofs.sliced.near.Goals as goal

pub returns : goal.returns
returns c =
    word-by-shares 8 c.args.word _ _ _ _ _ _ _ _
    (entry_8 _ (omega arith))
    (entry_7 _ (omega arith))
    (entry_6 _ (omega arith))
    (entry_5 _ (omega arith))
    (entry_4 _ (omega arith))
    (entry_3 _ (omega arith))
    (entry_2 _ (omega arith))
    (entry_1 _ (omega arith))
