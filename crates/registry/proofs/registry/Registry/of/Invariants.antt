use Rattle.std.proofs.Common.{◌≡◌, ◌-◌, ◌^◌, ◌/◌, ◌++◌, length, drop}
use Rattle.registry.specs.View.{replicas_of}
use Rattle.registry.proofs.registry.Registry.of.Given as goal

-- the replicas so far, and those to come
abbrev pub invariant-loop-b : goal.invariant-loop-b
invariant-loop-b l =
    (length l.replicas ≡ l.b)
    × (l.replicas ++ replicas_of (l.view.brokers - l.b) (l.view.in_sync / 2 ^ l.b) (drop l.b l.view.acked) ≡ replicas_of l.view.brokers l.view.in_sync l.view.acked)
