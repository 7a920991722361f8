use Rattle.std.proofs.Common.{rules, arith}
use Rattle.batch_prims.proofs.Groups.{ends_short, ends_last, goes_on}
use Rattle.batch_prims.proofs.varints.read_groups.Goals as goal

pub returns-in_default-clause-exact : goal.returns-in_default-clause-exact
returns-in_default-clause-exact c = ends_short c.args.most c.loop-i.i _ c.args.bytes.now _ (omega arith) (search rules) c.loop-i.invariant

pub returns-then-byte-lt128-clause-exact : goal.returns-then-byte-lt128-clause-exact
returns-then-byte-lt128-clause-exact c = ends_last c.args.most c.loop-i.i _ _ c.args.bytes.now _ (omega arith) (search rules) (search rules) (omega arith) c.loop-i.invariant

pub loop-i-preserved : goal.loop-i-preserved
loop-i-preserved c = goes_on c.args.most c.loop-i.i _ c.in-Some.byte.now c.args.bytes.now _ (omega arith) (search rules) (search rules) (omega arith) c.loop-i.invariant
