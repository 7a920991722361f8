use Rattle.plain_log.proofs.StepLaw.{step_safe}
use Rattle.plain_log.proofs.laws.steps_keep_safe.Goals as goal

pub returns : goal.returns
returns c = step_safe
