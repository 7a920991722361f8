use Rattle.std.proofs.Common.{◌≡◌, ◌++◌, ◌-◌, string_bytes}
use Rattle.load_gen.specs.Script.{hex_run}
use Rattle.load_gen.proofs.lines.hex_digits.Given as goal

abbrev pub invariant-loop : goal.invariant-loop
invariant-loop l =
    string_bytes l.text ++ hex_run (l.count - l.counter) l.byte ≡ string_bytes l.initial.text ++ hex_run l.count l.byte
