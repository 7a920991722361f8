use Rattle.std.proofs.Common.{◌≡◌, drop}
use Rattle.time_find.specs.Passing.{passed_over}
use Rattle.time_find.proofs.passing.passed_over.Given as goal

-- the cursor so far, and the segments to come
abbrev pub invariant-loop-segment : goal.invariant-loop-segment
invariant-loop-segment l = passed_over l.ts l.at (drop l.segment-index l.closed) ≡ passed_over l.ts l.cursor l.closed
