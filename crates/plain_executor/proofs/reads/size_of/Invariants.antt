use Rattle.std.proofs.Common.{◌≡◌, ◌≤◌, ◌+◌, ◌*◌, ◌^◌, drop, length}
use Rattle.log_terms.specs.Log.{joined}
use Rattle.plain_executor.proofs.reads.size_of.Given as goal

abbrev pub invariant-loop-i : goal.invariant-loop-i
invariant-loop-i l = record {
  sum : l.size + length (joined (drop l.i l.log)) ≡ length (joined l.log);
  small : l.size ≤ l.i * 2 ^ 63;
}
