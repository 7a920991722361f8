use Rattle.std.proofs.Common.{arith}
use Rattle.batch_prims.proofs.Braiding.{first-four}
use Rattle.batch_prims.proofs.braided.word_of.Goals as goal

pub returns : goal.returns
returns c = λ crc.
    first-four c.args.bytes.now _ c.requires (λ i. omega (arith, c.type_inv.bytes i)) c.from_le_bytes.ensures crc
