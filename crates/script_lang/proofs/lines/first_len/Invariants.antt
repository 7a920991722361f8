use Rattle.std.proofs.Common.{◌≡◌, ◌+◌, drop}
use Rattle.script_lang.specs.Reading.{line_len}
use Rattle.script_lang.proofs.lines.first_len.Given as goal

abbrev pub invariant-loop-i : goal.invariant-loop-i
invariant-loop-i l = l.i + line_len (drop l.i l.bytes) ≡ line_len l.bytes
