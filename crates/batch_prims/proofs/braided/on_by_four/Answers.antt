use Rattle.std.proofs.Common.{arith}
use Rattle.batch_prims.proofs.Braiding.{half-by-shares}
use Rattle.batch_prims.proofs.Entries.{entry_16, entry_15, entry_14, entry_13}
use Rattle.batch_prims.proofs.braided.on_by_four.Goals as goal

pub returns : goal.returns
returns c =
    half-by-shares 104 c.args.word _ _ _ _
    (entry_16 _ (omega arith))
    (entry_15 _ (omega arith))
    (entry_14 _ (omega arith))
    (entry_13 _ (omega arith))
