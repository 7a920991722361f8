use Rattle.laws_answers.proofs.Marked.{searches_answered}
use Rattle.laws_answers.proofs.turn_laws.searches_are_answered.Goals as goal

pub returns : goal.returns
returns g c = searches_answered g.D.Disk g.S.Store g.M.MetaLog
