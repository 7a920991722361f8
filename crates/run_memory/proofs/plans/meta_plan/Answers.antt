use Rattle.run_memory.specs.Plans.{meta_named}
use Rattle.run_memory.proofs.Planning.{plan_next}
use Rattle.run_memory.proofs.plans.meta_plan.Goals as goal

pub loop-fault-preserved : goal.loop-fault-preserved
loop-fault-preserved c = plan_next meta_named c.args.faults.now c.loop-fault.fault-index _ c.meta_named.result c.loop-fault.plan.items c.add_call.new.plan.items c.loop-fault-test.true c.loop-fault.invariant c.meta_named.ensures c.in_ok-add_call.ensures
