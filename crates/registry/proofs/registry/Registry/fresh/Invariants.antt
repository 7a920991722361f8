use Rattle.std.proofs.Common.{◌≡◌, replicate}
use Rattle.registry.specs.Replicas.{fresh_replica}
use Rattle.registry.proofs.registry.Registry.fresh.Given as goal

abbrev pub invariant-loop : goal.invariant-loop
invariant-loop l = l.replicas ≡ replicate l.counter fresh_replica
