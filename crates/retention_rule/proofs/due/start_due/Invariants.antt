use Rattle.std.proofs.Common.{◌≡◌, ◌+◌, drop}
use Rattle.retention_rule.specs.Due.{size_of, start_due}
use Rattle.retention_rule.proofs.due.start_due.Given as goal

abbrev pub invariant-loop-i : goal.invariant-loop-i
invariant-loop-i l = record {
  left : l.left ≡ l.rest + size_of (drop l.i l.items);
  count : l.i + start_due (drop l.i l.items) l.rest l.now l.keep ≡ start_due l.items l.rest l.now l.keep;
}
