use Rattle.partition_world.proofs.CentralLaw.{complete}
use Rattle.partition_world.proofs.laws.ends_are_complete.Goals as goal

pub returns : goal.returns
returns g c = complete g.D.Disk g.S.Store g.M.MetaLog
