use Rattle.std.proofs.Common.{◌≡◌, ◌-◌, ◌*◌, ◌^◌, ◌≤◌, take}
use Rattle.retention_rule.specs.Due.{size_of}
use Rattle.retention_rule.proofs.due.total.Given as goal

abbrev pub invariant-loop-item : goal.invariant-loop-item
invariant-loop-item l = record {
  value : l.total ≡ size_of (take l.item-index l.items);
  fits : l.total ≤ l.item-index * (2 ^ 64 - 1);
}
