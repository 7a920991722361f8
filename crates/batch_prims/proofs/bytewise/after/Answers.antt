use Rattle.std.proofs.Common.{arith}
use Rattle.batch_prims.proofs.Entries.{entry_1}
use Rattle.batch_prims.proofs.Taking.{one-byte}
use Rattle.batch_prims.proofs.bytewise.after.Goals as goal

pub returns : goal.returns
returns c = one-byte c.args.crc c.args.byte _ (omega arith) (entry_1 _ (omega arith))
