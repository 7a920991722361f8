use Rattle.std.proofs.Common.{◌-◌, ◌≤◌, ◌^◌, length}
use Rattle.local_log.specs.Stored.{end_of}
use Rattle.local_log.specs.Listing.{IsLaidOut}
use Rattle.local_log.specs.Taking.{IsGathering}
use Rattle.local_log.proofs.run.gather.Given as goal

abbrev pub invariant-loop-at : goal.invariant-loop-at
invariant-loop-at l = record {
  so_far : IsGathering l.fn.segment l.line l.run l.most l.at l.segment l.newer;
  laid : IsLaidOut l.segment;
  low : end_of l.segment ≤ 2 ^ 62;
  inside : l.at ≤ length l.run;
}

abbrev pub decreases-loop-at : goal.decreases-loop-at
decreases-loop-at l = length l.run - l.at
