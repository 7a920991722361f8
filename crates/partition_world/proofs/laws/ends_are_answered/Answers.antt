use Rattle.partition_world.proofs.InTurnLaw.{ends_are_answered}
use Rattle.partition_world.proofs.laws.ends_are_answered.Goals as goal

pub returns : goal.returns
returns g c = ends_are_answered g.D.Disk g.S.Store g.M.MetaLog
