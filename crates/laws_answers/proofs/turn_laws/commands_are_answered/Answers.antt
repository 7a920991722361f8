use Rattle.laws_answers.proofs.ChainsOfTurns.{are_answered}
use Rattle.laws_answers.proofs.turn_laws.commands_are_answered.Goals as goal

pub returns : goal.returns
returns g c = are_answered g.D.Disk g.S.Store g.M.MetaLog
