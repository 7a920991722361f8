use Rattle.std.proofs.Common.{◌≡◌, ◌≤◌, ℕ, length}
use Rattle.batch_prims.specs.Crc.{register}
use Rattle.batch_prims.specs.Braid.{StandFor}
use Rattle.batch_prims.proofs.braided.after_blocks.Given as goal

abbrev pub invariant-loop-rest : goal.invariant-loop-rest
invariant-loop-rest l = record {
  stand : (crc : ℕ) × (StandFor l.braid.first l.braid.second l.braid.third l.braid.fourth crc × (register crc l.rest ≡ register 0xFFFFFFFF l.bytes));
  more : 16 ≤ length l.rest;
}

abbrev pub decreases-loop-rest : goal.decreases-loop-rest
decreases-loop-rest l = length l.rest
