use Rattle.plain_log.proofs.StepLaw.{step_goes}
use Rattle.plain_log.proofs.laws.committed_grows.Goals as goal

pub returns : goal.returns
returns c = λ p order entry q e s none. (step_goes p order entry q e s).grows none
