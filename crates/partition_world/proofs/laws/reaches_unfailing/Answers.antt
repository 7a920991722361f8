use Rattle.partition_world.proofs.InfallibleLaw.{reaches_unfailing}
use Rattle.partition_world.proofs.laws.reaches_unfailing.Goals as goal

pub returns : goal.returns
returns g c = reaches_unfailing g.D.Disk g.S.Store g.M.MetaLog
