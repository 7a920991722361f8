use Rattle.std.proofs.Common.{◌≡◌, ◌≤◌, take, length}
use Rattle.plain_log.specs.Ends.{common}
use Rattle.plain_executor.proofs.followers.count_common.Given as goal

abbrev pub invariant-loop-count : goal.invariant-loop-count
invariant-loop-count l = record {
  in_log : l.count ≤ length l.log;
  in_other : l.count ≤ length l.other;
  same : common l.log l.other ≡ common (take l.count l.log) (take l.count l.other);
}

abbrev pub decreases-loop-count : goal.decreases-loop-count
decreases-loop-count l = l.count
