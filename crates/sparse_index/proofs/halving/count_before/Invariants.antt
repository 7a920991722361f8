use Rattle.std.proofs.Common.{◌≡◌, ◌+◌, ◌≤◌, length}
use Rattle.std.specs.Prelude.{int_lt}
use Rattle.std.specs.List.Sorted.{IsPartitionedBy}
use Rattle.lane_scan.specs.Count.{count_lt}
use Rattle.sparse_index.proofs.halving.count_before.Given as goal

abbrev pub invariant-loop-rest : goal.invariant-loop-rest
invariant-loop-rest l = record {
  parted : IsPartitionedBy (λ item. int_lt item l.fn.top) l.rest;
  count : l.passed + count_lt l.rest l.fn.top ≡ count_lt l.column l.fn.top;
  within : l.passed + length l.rest ≤ length l.column;
}

abbrev pub decreases-loop-rest : goal.decreases-loop-rest
decreases-loop-rest l = length l.rest
