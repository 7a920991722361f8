use Rattle.std.proofs.Common.{◌≤◌, ◌<◌, ◌-◌, ◌++◌}
use Rattle.std.specs.List.{HoldsAt}
use Rattle.script_help.specs.Asked.{CanBeCompleted}
use Rattle.script_help.proofs.place.count_first.Given as goal

abbrev pub invariant-loop-good : goal.invariant-loop-good
invariant-loop-good l =
    (l.good ≤ l.bad) × (l.bad ≤ l.most) × (0 < l.good → HoldsAt (λ head. CanBeCompleted (l.counts ++ head.now)) l.heads (l.good - 1))

abbrev pub decreases-loop-good : goal.decreases-loop-good
decreases-loop-good l = l.bad - l.good
