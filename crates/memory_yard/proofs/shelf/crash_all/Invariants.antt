use Rattle.std.specs.Prelude.{◌≡◌, ℕ, ◌<◌, ◌≤◌, slice_get}
use Rattle.device_yard.specs.YardContent.{Both}
use Rattle.memory_yard.specs.Shelf.{SlotKeeps}
use Rattle.memory_yard.proofs.shelf.crash_all.Given as goal

abbrev pub invariant-loop-slot : goal.invariant-loop-slot
invariant-loop-slot g l = record {
  done : (k : ℕ) → k < l.slot-index → Both (SlotKeeps g.T.Device.crashes) (slice_get l.fn.slots k) (slice_get l.slots k);
  rest : (k : ℕ) → l.slot-index ≤ k → slice_get l.slots k ≡ slice_get l.fn.slots k;
}
