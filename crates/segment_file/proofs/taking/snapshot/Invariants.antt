use Rattle.std.proofs.Common.{◌-◌, length}
use Rattle.segment_file.proofs.Runs.{Passed}
use Rattle.segment_file.proofs.taking.snapshot.Given as goal

abbrev pub invariant-loop-to : goal.invariant-loop-to
invariant-loop-to l = Passed l.offset l.bound l.bytes l.at l.last

abbrev pub decreases-loop-to : goal.decreases-loop-to
decreases-loop-to l = length l.bytes - l.at
