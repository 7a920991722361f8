use Rattle.std.proofs.Common.{◌≡◌, drop}
use Rattle.expiry_task.specs.Rule.{end_behind}
use Rattle.expiry_task.proofs.rule.end_behind.Given as goal

abbrev pub invariant-loop-one : goal.invariant-loop-one
invariant-loop-one l = end_behind l.end (drop l.one-index l.own) ≡ end_behind l.fn.offset l.own
