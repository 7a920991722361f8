use Rattle.laws_answers.proofs.Progress.{go_on}
use Rattle.laws_answers.proofs.turn_laws.turns_go_on.Goals as goal

pub returns : goal.returns
returns g c = go_on g.D.Disk g.S.Store g.M.MetaLog
