use Rattle.std.proofs.Common.{◌≡◌, drop}
use Rattle.batch_prims.specs.Crc.{register}
use Rattle.batch_prims.proofs.bitwise.crc32c_bitwise.Given as goal

abbrev pub invariant-loop-byte : goal.invariant-loop-byte
invariant-loop-byte l = register l.crc (drop l.byte-index l.bytes) ≡ register 0xFFFFFFFF l.bytes
