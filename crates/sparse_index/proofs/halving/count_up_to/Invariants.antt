use Rattle.std.proofs.Common.{◌≡◌, ◌+◌, ◌≤◌, length}
use Rattle.std.specs.Prelude.{nat_le}
use Rattle.std.specs.List.Sorted.{IsPartitionedBy}
use Rattle.lane_scan.specs.Count.{count_le}
use Rattle.sparse_index.proofs.halving.count_up_to.Given as goal

abbrev pub invariant-loop-rest : goal.invariant-loop-rest
invariant-loop-rest l = record {
  parted : IsPartitionedBy (λ item. nat_le item l.top) l.rest;
  count : l.passed + count_le l.rest l.top ≡ count_le l.column l.top;
  within : l.passed + length l.rest ≤ length l.column;
}

abbrev pub decreases-loop-rest : goal.decreases-loop-rest
decreases-loop-rest l = length l.rest
