use Rattle.plain_log.proofs.StepsGrow.{steps_grow}
use Rattle.plain_log.proofs.laws.steps_grow.Goals as goal

pub returns : goal.returns
returns c = steps_grow
