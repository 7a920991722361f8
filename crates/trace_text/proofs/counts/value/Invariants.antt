use Rattle.std.proofs.Common.{◌≡◌, ◌≤◌, ◌-◌, ◌^◌, drop}
use Rattle.tier_base.specs.Number.{value_of}
use Rattle.trace_text.proofs.counts.value.Given as goal

abbrev pub invariant-loop-digit : goal.invariant-loop-digit
invariant-loop-digit l = record {
  fits : l.number ≤ 2 ^ 64 - 1;
  value : value_of l.number (drop l.digit-index l.digits) ≡ value_of 0 l.digits;
}
