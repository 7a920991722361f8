use Rattle.std.proofs.Common.{◌≡◌, drop}
use Rattle.plain_log.specs.RowsOfReads.{first_at}
use Rattle.plain_executor.proofs.reads.first_offset.Given as goal

abbrev pub invariant-loop-i : goal.invariant-loop-i
invariant-loop-i l = first_at l.ts l.start l.log ≡ first_at l.ts l.start (drop l.i l.log)
