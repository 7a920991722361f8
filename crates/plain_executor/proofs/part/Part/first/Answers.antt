use Rattle.plain_executor.proofs.Parts.{first_part}
use Rattle.plain_executor.proofs.part.Part.first.Goals as goal

pub returns : goal.returns
returns c = first_part c.self.inside.log.now c.args.self.now c.self.inside.from c.self.inside.to c.args.count c.self.view_is
    c.self.invariant.0 c.self.invariant.1 c.requires
