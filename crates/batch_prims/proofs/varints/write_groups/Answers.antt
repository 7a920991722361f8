use Rattle.std.proofs.Common.{refl, arith, rules}
use Rattle.batch_prims.proofs.Written.{none_yet, one_more, all_groups}
use Rattle.batch_prims.proofs.varints.write_groups.Goals as goal

pub loop-rest-init : goal.loop-rest-init
loop-rest-init c = none_yet _ _ refl (omega arith)

pub loop-rest-preserved : goal.loop-rest-preserved
loop-rest-preserved c = one_more _ _ _ _ c.loop-rest.invariant (omega arith)

pub returns-clause-ok : goal.returns-clause-ok
returns-clause-ok c = search (rules, all_groups)
