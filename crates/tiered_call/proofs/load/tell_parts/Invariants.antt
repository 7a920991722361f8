use Rattle.tiered_call.specs.Telling.{IsToldSoFar}
use Rattle.run_memory.proofs.MemoryDevices.{disk, store, meta}
use Rattle.tiered_call.proofs.load.tell_parts.Given as goal

abbrev pub invariant-loop-part : goal.invariant-loop-part
invariant-loop-part l = IsToldSoFar disk store meta l.fn.config l.fn.parts l.part-iterator.rest.items l.told.items
