use Rattle.std.proofs.Common.{◌≡◌, take, Some}
use Rattle.plain_log.specs.Runs.{replay}
use Rattle.plain_executor.proofs.trace.take_all.Given as goal

abbrev pub invariant-loop-i : goal.invariant-loop-i
invariant-loop-i l = replay l.lists l.fn.plain (take l.i l.journal) ≡ Some l.plain
