use Rattle.std.proofs.Common.{◌≡◌, ◌++◌, take, drop}
use Rattle.plain_log.specs.Fetch.{fitting}
use Rattle.plain_executor.proofs.reads.count_fitting.Given as goal

abbrev pub invariant-loop-i : goal.invariant-loop-i
invariant-loop-i l = fitting l.room l.log ≡ take l.i l.log ++ fitting l.left (drop l.i l.log)
