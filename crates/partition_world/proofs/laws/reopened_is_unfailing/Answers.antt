use Rattle.partition_world.proofs.InfallibleLaw.{reopened_is_unfailing}
use Rattle.partition_world.proofs.laws.reopened_is_unfailing.Goals as goal

pub returns : goal.returns
returns g c = reopened_is_unfailing g.D.Disk g.S.Store g.M.MetaLog
