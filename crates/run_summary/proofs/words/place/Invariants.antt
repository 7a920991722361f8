use Rattle.std.proofs.Common.{◌≡◌, ◌++◌, take, drop}
use Rattle.load_gen.specs.Summary.{with_word}
use Rattle.run_summary.proofs.words.place.Given as goal

abbrev pub invariant-loop-i : goal.invariant-loop-i
invariant-loop-i l = with_word l.word l.words ≡ take l.i l.words ++ with_word l.word (drop l.i l.words)
