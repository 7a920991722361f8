use Rattle.partition_world.proofs.LeftLaw.{steps_keep_left}
use Rattle.partition_world.proofs.laws.steps_keep_left.Goals as goal

pub returns : goal.returns
returns g c = steps_keep_left g.D.Disk g.S.Store g.M.MetaLog
