use Rattle.plain_executor.proofs.Parts.{get_part}
use Rattle.plain_executor.proofs.part.Part.get.Goals as goal

pub returns : goal.returns
returns c = get_part c.self.inside.log.now c.args.self.now c.self.inside.from c.self.inside.to c.args.i c.len.result c.get.result.now
    c.self.view_is c.self.invariant.0 c.self.invariant.1 c.len.ensures c.requires c.get.ensures
