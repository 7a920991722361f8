use Rattle.std.proofs.Common.{◌≡◌, ◌≤◌, length, drop, Some}
use Rattle.std.specs.Prelude.{slice_get, slice_set}
use Rattle.registry.specs.declared.registry.Replica.{Replica}
use Rattle.registry.specs.Replicas.{least_acked}
use Rattle.plain_executor.proofs.replicas.least_with.Given as goal

abbrev pub invariant-loop-at : goal.invariant-loop-at
invariant-loop-at l = record {
  within : l.at ≤ length l.replicas;
  least : (s : Replica) → slice_get l.replicas l.b ≡ Some s
      → l.least ≡ least_acked (drop l.at (slice_set l.replicas l.b (record s { acked = l.acked })));
}

abbrev pub decreases-loop-at : goal.decreases-loop-at
decreases-loop-at l = l.at
