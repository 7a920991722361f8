use Rattle.partition_world.proofs.CentralLaw.{step_central}
use Rattle.partition_world.proofs.laws.steps_keep_central.Goals as goal

pub returns : goal.returns
returns g c = step_central g.D.Disk g.S.Store g.M.MetaLog
