use Rattle.std.proofs.Common.{◌≡◌, length}
use Rattle.registry.specs.Replicas.{outsider}
use Rattle.registry.proofs.Changing.{changed}
use Rattle.registry.proofs.replicas.all_out.Given as goal

abbrev pub invariant-loop-at : goal.invariant-loop-at
invariant-loop-at l = (l.replicas ≡ changed (λ s. outsider) l.at l.initial.replicas) × (length l.replicas ≡ length l.initial.replicas)
