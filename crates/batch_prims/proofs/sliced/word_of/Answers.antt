use Rattle.std.proofs.Common.{arith}
use Rattle.batch_prims.proofs.Taking.{first-eight}
use Rattle.batch_prims.proofs.sliced.word_of.Goals as goal

pub returns : goal.returns
returns c = λ crc.
    first-eight c.args.bytes.now _ crc c.requires (λ i. omega (arith, c.type_inv.bytes i)) c.from_le_bytes.ensures
