use Rattle.std.proofs.Common.{◌≡◌, drop}
use Rattle.script_lang.specs.Words.{words_of}
use Rattle.script_lang.proofs.words.skip_blanks.Given as goal

abbrev pub invariant-loop-i : goal.invariant-loop-i
invariant-loop-i l = words_of (drop l.i l.bytes) ≡ words_of l.bytes
