use Rattle.std.proofs.Common.{◌≡◌, length}
use Rattle.registry.specs.Replicas.{renewed}
use Rattle.registry.proofs.Changing.{changed}
use Rattle.registry.proofs.replicas.reset.Given as goal

abbrev pub invariant-loop-at : goal.invariant-loop-at
invariant-loop-at l = (l.replicas ≡ changed (renewed l.mark) l.at l.initial.replicas) × (length l.replicas ≡ length l.initial.replicas)
