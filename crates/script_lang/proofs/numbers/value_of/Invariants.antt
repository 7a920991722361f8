use Rattle.std.proofs.Common.{◌≡◌, drop, min, ◌≤◌, ◌-◌, ◌^◌}
use Rattle.script_lang.specs.Words.{value_of}
use Rattle.script_lang.proofs.numbers.value_of.Given as goal

abbrev pub invariant-loop-digit : goal.invariant-loop-digit
invariant-loop-digit l = (l.number ≤ 2 ^ 64 - 1) × (min (value_of l.number (drop l.digit-index l.digits)) (2 ^ 64 - 1) ≡ min (value_of 0 l.digits) (2 ^ 64 - 1))
