use Rattle.std.proofs.Common.{◌-◌, ◌≤◌}
use Rattle.time_find.specs.Passing.{Passes}
use Rattle.time_find.proofs.passing.seek.Given as goal

abbrev pub invariant-loop-at : goal.invariant-loop-at
invariant-loop-at l = record {
  passes : Passes l.asked l.line l.view.entries l.cursor l.at;
  up : l.cursor ≤ l.at;
}

abbrev pub decreases-loop-at : goal.decreases-loop-at
decreases-loop-at l = l.top - l.at
