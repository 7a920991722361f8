use Rattle.std.proofs.Common.{◌≡◌, ◌+◌, drop}
use Rattle.tier_base.specs.Number.{digits_len}
use Rattle.tier_base.proofs.numeral.count_digits.Given as goal

abbrev pub invariant-loop-i : goal.invariant-loop-i
invariant-loop-i l = l.i + digits_len (drop l.i l.bytes) ≡ digits_len l.bytes
