use Rattle.std.proofs.Common.{◌≡◌, drop}
use Rattle.batch_prims.specs.Crc.{register}
use Rattle.batch_prims.proofs.bytewise.after_all.Given as goal

abbrev pub invariant-loop-byte : goal.invariant-loop-byte
invariant-loop-byte l = register l.crc (drop l.byte-index l.bytes) ≡ register l.from l.bytes
