use Rattle.std.proofs.Common.{◌≡◌, ◌++◌, take}
use Rattle.run_summary.proofs.text.push_all.Given as goal

abbrev pub invariant-loop-given : goal.invariant-loop-given
invariant-loop-given l = l.all.items ≡ l.initial.all.items ++ take l.given-index l.more
