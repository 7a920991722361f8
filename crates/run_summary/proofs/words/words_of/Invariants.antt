use Rattle.std.proofs.Common.{◌≡◌, ◌≤◌, length, drop}
use Rattle.load_gen.specs.Summary.{words_of}
use Rattle.run_summary.proofs.words.words_of.Given as goal

abbrev pub invariant-loop-at : goal.invariant-loop-at
invariant-loop-at l = record {
  within : l.at ≤ length l.answers;
  words_are : l.words.items ≡ words_of l.command (drop l.at l.answers);
}

abbrev pub decreases-loop-at : goal.decreases-loop-at
decreases-loop-at l = l.at
