use Rattle.std.proofs.Common.{◌≡◌, ◌-◌, ◌++◌, take, replicate}
use Rattle.registry.specs.View.{acked_ends}
use Rattle.registry.proofs.view.ends.Given as goal

abbrev pub invariant-loop-b : goal.invariant-loop-b
invariant-loop-b l = l.acked ≡ acked_ends (take l.b l.replicas) ++ replicate (8 - l.b) 0
