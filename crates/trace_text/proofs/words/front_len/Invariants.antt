use Rattle.std.proofs.Common.{◌≡◌, ◌+◌, drop}
use Rattle.std.specs.Prelude.{◌==◌}
use Rattle.trace_text.specs.Steps.{front_len}
use Rattle.trace_text.proofs.words.front_len.Given as goal

abbrev pub invariant-loop-i : goal.invariant-loop-i
invariant-loop-i l = l.i + front_len (λ b. b == l.«end») (drop l.i l.text) ≡ front_len (λ b. b == l.«end») l.text
