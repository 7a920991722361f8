use Rattle.std.proofs.Common.{arith, ap}
use Rattle.log_terms.specs.Batch.{last_of}
use Rattle.plain_executor.proofs.Splits.{end_read}
use Rattle.plain_executor.proofs.ends.end_in.Goals as goal

pub returns-clause-is : goal.returns-clause-is
returns-clause-is c =
    let e = end_read c.args.log.now c.len-count.result c.get.result.now c.get.ensures c.len-count.ensures (omega arith) in
    let is = ap last_of c.as_slice.ensures in
    omega (arith, e, is)
