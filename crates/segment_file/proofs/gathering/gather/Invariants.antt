use Rattle.std.proofs.Common.{◌-◌, length}
use Rattle.segment_file.specs.Gathering.{IsGathered}
use Rattle.segment_file.proofs.gathering.gather.Given as goal

abbrev pub invariant-loop-front : goal.invariant-loop-front
invariant-loop-front l = IsGathered l.base l.bytes l.front

abbrev pub decreases-loop-front : goal.decreases-loop-front
decreases-loop-front l = length l.bytes - l.front.at
