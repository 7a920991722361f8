use Rattle.std.proofs.Common.{◌≡◌, ◌+◌, drop}
use Rattle.std.specs.Prelude.{◌==◌}
use Rattle.script_lang.specs.Reading.{front_len}
use Rattle.script_lang.proofs.fields.part_len.Given as goal

abbrev pub invariant-loop-i : goal.invariant-loop-i
invariant-loop-i l = l.i + front_len (λ b. b == l.separator) (drop l.i l.bytes) ≡ front_len (λ b. b == l.separator) l.bytes
