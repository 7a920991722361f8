use Rattle.std.proofs.Common.{◌-◌, length}
use Rattle.segment_file.specs.Going.{IsGoing}
use Rattle.segment_file.proofs.taking.extended.Given as goal

abbrev pub invariant-loop-run : goal.invariant-loop-run
invariant-loop-run l = IsGoing l.bytes l.offset l.limit l.bound l.run

abbrev pub decreases-loop-run : goal.decreases-loop-run
decreases-loop-run l = length l.bytes - l.run.to
