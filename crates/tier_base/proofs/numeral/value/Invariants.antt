use Rattle.std.proofs.Common.{◌≡◌, ◌-◌, ◌^◌, ◌≤◌, drop, min}
use Rattle.tier_base.specs.Number.{value_of}
use Rattle.tier_base.proofs.numeral.value.Given as goal

abbrev pub invariant-loop-digit : goal.invariant-loop-digit
invariant-loop-digit l = record {
  fits : l.number ≤ 2 ^ 64 - 1;
  value : min (value_of l.number (drop l.digit-index l.digits)) (2 ^ 64 - 1) ≡ min (value_of 0 l.digits) (2 ^ 64 - 1);
}
