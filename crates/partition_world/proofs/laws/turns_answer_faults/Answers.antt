use Rattle.partition_world.proofs.CountingTurns.{turn_answers}
use Rattle.partition_world.proofs.laws.turns_answer_faults.Goals as goal

pub returns : goal.returns
returns g c = turn_answers g.D.Disk g.S.Store g.M.MetaLog
