use Rattle.batch_prims.proofs.Written.{SoFar}
use Rattle.batch_prims.proofs.varints.write_groups.Given as goal

abbrev pub invariant-loop-rest : goal.invariant-loop-rest
invariant-loop-rest l = SoFar l.groups l.count l.rest l.number

abbrev pub decreases-loop-rest : goal.decreases-loop-rest
decreases-loop-rest l = l.rest
