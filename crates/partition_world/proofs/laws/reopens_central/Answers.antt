use Rattle.partition_world.proofs.ColdLaw.{reopens_central}
use Rattle.partition_world.proofs.laws.reopens_central.Goals as goal

pub returns : goal.returns
returns g c = reopens_central g.D.Disk g.S.Store g.M.MetaLog
