use Rattle.std.proofs.Common.{◌≡◌, ◌≤◌, length, drop}
use Rattle.registry.specs.Replicas.{least_acked}
use Rattle.registry.proofs.replicas.least_acked.Given as goal

abbrev pub invariant-loop-at : goal.invariant-loop-at
invariant-loop-at l = record {
  within : l.at ≤ length l.replicas;
  least : l.least ≡ least_acked (drop l.at l.replicas);
}

abbrev pub decreases-loop-at : goal.decreases-loop-at
decreases-loop-at l = l.at
