use Rattle.std.proofs.Common.{◌≡◌, take}
use Rattle.run_memory.specs.Plans.{meta_plan}
use Rattle.run_memory.proofs.plans.meta_plan.Given as goal

abbrev pub invariant-loop-fault : goal.invariant-loop-fault
invariant-loop-fault l = l.plan.items ≡ meta_plan (take l.fault-index l.faults)
