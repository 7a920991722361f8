use Rattle.std.proofs.Common.{◌≡◌, ◌+◌, drop}
use Rattle.script_lang.specs.Words.{is_blank}
use Rattle.script_lang.specs.Reading.{front_len}
use Rattle.script_lang.proofs.words.word_len.Given as goal

abbrev pub invariant-loop-i : goal.invariant-loop-i
invariant-loop-i l = l.i + front_len is_blank (drop l.i l.bytes) ≡ front_len is_blank l.bytes
