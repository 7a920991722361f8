use Rattle.std.proofs.Common.{arith}
use Rattle.batch_prims.proofs.Braiding.{half-by-shares}
use Rattle.batch_prims.proofs.Entries.{entry_8, entry_7, entry_6, entry_5}
use Rattle.batch_prims.proofs.braided.on_by_two.Goals as goal

pub returns : goal.returns
returns c =
    half-by-shares 40 c.args.word _ _ _ _
    (entry_8 _ (omega arith))
    (entry_7 _ (omega arith))
    (entry_6 _ (omega arith))
    (entry_5 _ (omega arith))
