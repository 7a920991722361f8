use Rattle.cold_start.proofs.RegistrySteps.{steps_one}
use Rattle.cold_start.proofs.laws.a_step_changes_the_registry_or_a_device.Goals as goal

pub returns : goal.returns
returns g c = steps_one g.D.Disk g.S.Store g.M.MetaLog
