use Rattle.plain_executor.specs.Change.{NoneBefore}
use Rattle.plain_executor.proofs.making.find.Given as goal

abbrev pub invariant-loop-i : goal.invariant-loop-i
invariant-loop-i l = NoneBefore l.paths l.epoch l.i
