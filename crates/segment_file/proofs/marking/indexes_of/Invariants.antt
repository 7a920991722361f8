use Rattle.std.proofs.Common.{◌-◌, length}
use Rattle.segment_file.specs.Marking.{IsMarked}
use Rattle.segment_file.proofs.marking.indexes_of.Given as goal

abbrev pub invariant-loop-at : goal.invariant-loop-at
invariant-loop-at l = IsMarked l.base l.bytes l.interval l.at l.marking

abbrev pub decreases-loop-at : goal.decreases-loop-at
decreases-loop-at l = length l.bytes - l.at
