use Rattle.std.proofs.Common.{◌≤◌, ◌-◌, length}
use Rattle.plain_executor.proofs.Splits.{AreBelow, AreAbove}
use Rattle.plain_executor.proofs.ends.count_up_to.Given as goal

abbrev pub invariant-loop-low : goal.invariant-loop-low
invariant-loop-low l = record {
  order : l.low ≤ l.high;
  within : l.high ≤ length l.log;
  below : AreBelow l.n l.log l.low;
  above : AreAbove l.n l.log l.high;
}

abbrev pub decreases-loop-low : goal.decreases-loop-low
decreases-loop-low l = l.high - l.low
