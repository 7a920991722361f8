use Rattle.std.proofs.Common.{◌≡◌, drop}
use Rattle.std.specs.Prelude.{bytes_eq}
use Rattle.log_terms.specs.Log.{joined}
use Rattle.plain_executor.proofs.reads.is_joined.Given as goal

abbrev pub invariant-loop-i : goal.invariant-loop-i
invariant-loop-i l = bytes_eq (joined l.log) l.bytes ≡ bytes_eq (joined (drop l.i l.log)) l.rest
