use Rattle.laws_answers.proofs.Progress.{others_stay}
use Rattle.laws_answers.proofs.turn_laws.others_stay.Goals as goal

pub returns : goal.returns
returns g c = others_stay g.D.Disk g.S.Store g.M.MetaLog
