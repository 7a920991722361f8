use Rattle.partition_world.proofs.LastingRuns.{reaches_lasting}
use Rattle.partition_world.proofs.laws.reaches_lasting.Goals as goal

pub returns : goal.returns
returns g c = reaches_lasting g.D.Disk g.S.Store g.M.MetaLog
