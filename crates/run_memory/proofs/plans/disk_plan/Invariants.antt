use Rattle.std.proofs.Common.{◌≡◌, take}
use Rattle.run_memory.specs.Plans.{disk_plan}
use Rattle.run_memory.proofs.plans.disk_plan.Given as goal

abbrev pub invariant-loop-fault : goal.invariant-loop-fault
invariant-loop-fault l = l.plan.items ≡ disk_plan l.fn.broker (take l.fault-index l.faults)
