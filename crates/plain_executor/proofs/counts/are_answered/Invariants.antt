use Rattle.std.proofs.Common.{◌≡◌, length, take}
use Rattle.plain_executor.specs.Complete.{AreAnswered}
use Rattle.plain_executor.proofs.counts.are_answered.Given as goal

abbrev pub invariant-loop-entry : goal.invariant-loop-entry
invariant-loop-entry l = record {
  same : length l.counts.items ≡ length l.wanted;
  answered : AreAnswered (take l.entry-index l.journal) l.counts.items;
}
