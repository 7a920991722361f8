use Rattle.tiered_call.specs.Running.{IsSoFar}
use Rattle.run_memory.proofs.MemoryDevices.{disk, store, meta}
use Rattle.tiered_call.proofs.sim.run_parts.Given as goal

abbrev pub invariant-loop-part : goal.invariant-loop-part
invariant-loop-part l = IsSoFar disk store meta l.fn.config l.fn.parts l.part-iterator.rest.items l.text.items
