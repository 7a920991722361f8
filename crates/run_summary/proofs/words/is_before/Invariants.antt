use Rattle.std.proofs.Common.{◌≡◌, ◌≤◌, length, drop}
use Rattle.load_gen.specs.Summary.{stands_before}
use Rattle.run_summary.proofs.words.is_before.Given as goal

abbrev pub invariant-loop-i : goal.invariant-loop-i
invariant-loop-i l = record {
  within : l.i ≤ length l.word;
  rest : stands_before (drop l.i l.word) (drop l.i l.other) ≡ stands_before l.word l.other;
}
