use Rattle.std.proofs.Common.{◌≡◌, ◌+◌, length}
use Rattle.run_threaded.proofs.threads.unlocked.Given as goal

abbrev pub invariant-loop-lock : goal.invariant-loop-lock
invariant-loop-lock g l = length l.parts.items + length l.lock-iterator.rest.items ≡ length l.fn.locks.items
