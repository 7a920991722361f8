use Rattle.partition_world.proofs.ColdLaw.{reopened_runs}
use Rattle.partition_world.proofs.laws.reopened_runs.Goals as goal

pub returns : goal.returns
returns g c = reopened_runs g.D.Disk g.S.Store g.M.MetaLog
