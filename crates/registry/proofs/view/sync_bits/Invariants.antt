use Rattle.std.proofs.Common.{◌≡◌, ◌≤◌, length, drop}
use Rattle.registry.specs.View.{sync_bits}
use Rattle.registry.proofs.view.sync_bits.Given as goal

abbrev pub invariant-loop-at : goal.invariant-loop-at
invariant-loop-at l = record {
  within : l.at ≤ length l.replicas;
  bits : l.bits ≡ sync_bits (drop l.at l.replicas);
}

abbrev pub decreases-loop-at : goal.decreases-loop-at
decreases-loop-at l = l.at
