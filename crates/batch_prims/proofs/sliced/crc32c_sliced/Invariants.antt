use Rattle.std.proofs.Common.{◌≡◌, length}
use Rattle.batch_prims.specs.Crc.{register}
use Rattle.batch_prims.proofs.sliced.crc32c_sliced.Given as goal

abbrev pub invariant-loop-rest : goal.invariant-loop-rest
invariant-loop-rest l = register l.crc l.rest ≡ register 0xFFFFFFFF l.bytes

abbrev pub decreases-loop-rest : goal.decreases-loop-rest
decreases-loop-rest l = length l.rest
