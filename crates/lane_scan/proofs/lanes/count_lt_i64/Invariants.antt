use Rattle.std.proofs.Common.{◌≡◌, ◌+◌, ◌≤◌, length}
use Rattle.lane_scan.specs.Count.{count_lt}
use Rattle.lane_scan.proofs.lanes.count_lt_i64.Given as goal

abbrev pub invariant-loop-rest : goal.invariant-loop-rest
invariant-loop-rest l = record {
  count : l.count + count_lt l.rest l.top ≡ count_lt l.row l.top;
  within : l.count + length l.rest ≤ length l.row;
}

abbrev pub decreases-loop-rest : goal.decreases-loop-rest
decreases-loop-rest l = length l.rest
