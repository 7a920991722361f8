use Rattle.laws_partition.proofs.CentralLaw.{step_central}
use Rattle.laws_partition.proofs.laws.steps_keep_central.Goals as goal

pub returns : goal.returns
returns c = step_central
