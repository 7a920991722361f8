use Rattle.memory_yard.proofs.Without.{Passed}
use Rattle.memory_yard.proofs.first.without.Given as goal

abbrev pub invariant-loop-partition : goal.invariant-loop-partition
invariant-loop-partition l = Passed l.partitions l.others l.partition-index l.row
