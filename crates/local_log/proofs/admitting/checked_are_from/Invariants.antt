use Rattle.std.proofs.Common.{◌↔◌, ◌-◌, ◌≤◌, length, drop}
use Rattle.record_batch.specs.Check.{AreChecked}
use Rattle.local_log.specs.Admitting.{AreFrom}
use Rattle.local_log.proofs.admitting.checked_are_from.Given as goal

abbrev pub invariant-loop-spot : goal.invariant-loop-spot
invariant-loop-spot l = record {
  inside : l.spot.at ≤ length l.run;
  same : AreFrom l.run l.fn.first ↔ AreFrom l.run l.spot;
  rest : AreChecked (drop l.spot.at l.run);
}

abbrev pub decreases-loop-spot : goal.decreases-loop-spot
decreases-loop-spot l = length l.run - l.spot.at
