use Rattle.std.proofs.Common.{◌≡◌, ◌++◌, drop}
use Rattle.std.specs.Prelude.{map}
use Rattle.expiry_task.specs.Rule.{all_ends}
use Rattle.expiry_task.proofs.rule.all_ends.Given as goal

-- the ends so far, and those of the segments that are left, are all of them
abbrev pub invariant-loop-one : goal.invariant-loop-one
invariant-loop-one l = l.ends.items ++ map (λ one. one.end) (drop l.one-index l.own) ≡ all_ends l.pieces l.own
