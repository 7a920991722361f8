use Rattle.std.proofs.Common.{◌≡◌, ◌++◌, ◌-◌, string_bytes}
use Rattle.load_gen.specs.Script.{turns}
use Rattle.load_gen.proofs.script.write_turns.Given as goal

abbrev pub invariant-loop-i : goal.invariant-loop-i
invariant-loop-i l =
    string_bytes l.text ++ turns (l.count - l.i) l.i l.draws.state ≡ string_bytes l.initial.text ++ turns l.count 0 l.number
