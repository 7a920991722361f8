use Rattle.batch_prims.specs.Varint.{low_bits}
use Rattle.batch_prims.proofs.Causes.{not_short, not_too_long}
use Rattle.batch_prims.proofs.varints.read_varlong.Goals as goal

pub returns-clause-short : goal.returns-clause-short
returns-clause-short c = not_short (low_bits 64) 10 c.args.bytes.now _ _ c.in_ok-number.ensures.exact

pub returns-clause-too_long : goal.returns-clause-too_long
returns-clause-too_long c = not_too_long (low_bits 64) 10 c.args.bytes.now _ _ c.in_ok-number.ensures.exact
