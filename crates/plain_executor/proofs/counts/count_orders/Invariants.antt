use Rattle.std.proofs.Common.{◌≤◌, length, drop}
use Rattle.plain_executor.specs.Complete.{AreCounts}
use Rattle.plain_executor.proofs.counts.count_orders.Given as goal

abbrev pub invariant-loop-at : goal.invariant-loop-at
invariant-loop-at l = record {
  within : l.at ≤ length l.lists;
  counted : AreCounts (drop l.at l.lists) l.counts.items;
}

abbrev pub decreases-loop-at : goal.decreases-loop-at
decreases-loop-at l = l.at
