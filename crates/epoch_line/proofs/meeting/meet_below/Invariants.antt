use Rattle.std.proofs.Common.{ℕ, ◌+◌, length}
use Rattle.epoch_line.specs.Line.{IsLine}
use Rattle.epoch_line.specs.Meet.{IsMeetBelow}
use Rattle.epoch_line.proofs.meeting.meet_below.Given as goal

abbrev pub invariant-loop-mine : goal.invariant-loop-mine
invariant-loop-mine l = record {
  own : IsLine l.own;
  other : IsLine l.other;
  meet : (n : ℕ) → IsMeetBelow l.own l.other l.limit n → IsMeetBelow l.fn.own l.fn.other l.fn.limit n;
}

abbrev pub decreases-loop-mine : goal.decreases-loop-mine
decreases-loop-mine l = length l.own + length l.other
