use Rattle.partition_world.proofs.InfallibleLaw.{fresh_is_unfailing}
use Rattle.partition_world.proofs.laws.fresh_is_unfailing.Goals as goal

pub returns : goal.returns
returns g c = fresh_is_unfailing g.D.Disk g.S.Store g.M.MetaLog
