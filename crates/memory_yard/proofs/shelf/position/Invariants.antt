use Rattle.memory_yard.specs.Shelf.{IsAbsentBelow}
use Rattle.memory_yard.proofs.shelf.position.Given as goal

abbrev pub invariant-loop-i : goal.invariant-loop-i
invariant-loop-i g l = IsAbsentBelow g.K.DevicePlace.same l.i l.place l.slots
