use Rattle.partition_world.proofs.FreshLaw.{fresh_is_central}
use Rattle.partition_world.proofs.laws.fresh_is_central.Goals as goal

pub returns : goal.returns
returns g c = fresh_is_central g.D.Disk g.S.Store g.M.MetaLog
