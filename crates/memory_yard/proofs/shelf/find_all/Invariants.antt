use Rattle.std.specs.Prelude.{◌≡◌, ℕ, ◌≤◌, slice_get}
use Rattle.memory_yard.specs.Found.{Adds}
use Rattle.memory_yard.specs.Shelf.{AreStill, IsPartitionBelow}
use Rattle.memory_yard.proofs.shelf.find_all.Given as goal

abbrev pub invariant-loop-slot : goal.invariant-loop-slot
invariant-loop-slot g l = record {
  still : AreStill g.T.Device.keeps l.fn.slots l.slots;
  rest : (k : ℕ) → l.slot-index ≤ k → slice_get l.slots k ≡ slice_get l.fn.slots k;
  found : Adds (IsPartitionBelow g.K.DevicePlace.partition_of g.T.Device.used l.slot-index l.fn.slots) l.fn.found l.found;
}
