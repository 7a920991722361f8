use Rattle.std.proofs.Common.{length}
use Rattle.time_find.proofs.Dating.{GoesBy}
use Rattle.time_find.proofs.run.date_in.Given as goal

abbrev pub invariant-loop-rest : goal.invariant-loop-rest
invariant-loop-rest l = GoesBy l.ts l.start l.offset l.run l.rest l.end

abbrev pub decreases-loop-rest : goal.decreases-loop-rest
decreases-loop-rest l = length l.rest
