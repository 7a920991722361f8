use Rattle.partition_world.proofs.ReachesLaw.{reaches_later}
use Rattle.partition_world.proofs.laws.reaches_later.Goals as goal

pub returns : goal.returns
returns g c = reaches_later g.D.Disk g.S.Store g.M.MetaLog
