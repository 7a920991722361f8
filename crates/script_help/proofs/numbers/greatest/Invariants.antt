use Rattle.std.proofs.Common.{◌<◌, ◌-◌, ◌++◌}
use Rattle.std.specs.Prelude.{decimal}
use Rattle.script_help.specs.Asked.{HasWords, then_word}
use Rattle.script_help.proofs.numbers.greatest.Given as goal

abbrev pub invariant-loop-bad : goal.invariant-loop-bad
invariant-loop-bad l = (l.good < l.bad) × HasWords (then_word l.head (decimal l.good) ++ l.tail)

abbrev pub decreases-loop-bad : goal.decreases-loop-bad
decreases-loop-bad l = l.bad - l.good
