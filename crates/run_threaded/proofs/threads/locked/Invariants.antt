use Rattle.std.proofs.Common.{◌≡◌, ◌+◌, length}
use Rattle.run_threaded.proofs.threads.locked.Given as goal

abbrev pub invariant-loop-part : goal.invariant-loop-part
invariant-loop-part g l = length l.locks.items + length l.part-iterator.rest.items ≡ length l.fn.parts.items
