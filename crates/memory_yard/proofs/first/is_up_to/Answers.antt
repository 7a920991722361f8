use Rattle.memory_yard.proofs.Firsts.{compared}
use Rattle.memory_yard.proofs.first.is_up_to.Goals as goal

pub returns : goal.returns
returns c = compared c.args.a.now c.args.b.now c.cmp.result c.is_le.result c.cmp.ensures c.is_le.ensures
