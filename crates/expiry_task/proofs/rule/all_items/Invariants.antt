use Rattle.std.proofs.Common.{◌≡◌, ◌++◌, drop}
use Rattle.std.specs.Prelude.{map}
use Rattle.expiry_task.specs.Rule.{all_items}
use Rattle.expiry_task.proofs.rule.all_items.Given as goal

-- the items so far, and those of the segments that are left, are all of them
abbrev pub invariant-loop-one : goal.invariant-loop-one
invariant-loop-one l = l.items.items ++ map (λ one. one.item) (drop l.one-index l.own) ≡ all_items l.view.entries l.pieces l.own
