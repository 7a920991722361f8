use Rattle.std.proofs.Common.{◌≡◌, take}
use Rattle.load_gen.specs.Summary.{count_of}
use Rattle.run_summary.proofs.words.count.Given as goal

abbrev pub invariant-loop-given : goal.invariant-loop-given
invariant-loop-given l = l.count ≡ count_of l.command l.word (take l.given-index l.answers)
