use Rattle.partition_world.proofs.LeftLaw.{left_is_central}
use Rattle.partition_world.proofs.laws.left_is_central.Goals as goal

pub returns : goal.returns
returns g c = left_is_central g.D.Disk g.S.Store g.M.MetaLog
