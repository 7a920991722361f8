use Rattle.partition_world.proofs.LeftLaw.{fresh_is_central_left}
use Rattle.partition_world.proofs.laws.fresh_is_central_left.Goals as goal

pub returns : goal.returns
returns g c = fresh_is_central_left g.D.Disk g.S.Store g.M.MetaLog
