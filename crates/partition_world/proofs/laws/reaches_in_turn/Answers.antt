use Rattle.partition_world.proofs.InTurnLaw.{reaches_in_turn}
use Rattle.partition_world.proofs.laws.reaches_in_turn.Goals as goal

pub returns : goal.returns
returns g c = reaches_in_turn g.D.Disk g.S.Store g.M.MetaLog
