use Rattle.cold_start.proofs.LogSteps.{steps_work}
use Rattle.cold_start.proofs.laws.a_step_works_on_one_device.Goals as goal

pub returns : goal.returns
returns g c = steps_work g.D.Disk g.S.Store g.M.MetaLog
