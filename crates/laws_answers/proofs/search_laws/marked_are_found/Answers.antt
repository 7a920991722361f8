use Rattle.laws_answers.proofs.Found.{marked_found}
use Rattle.laws_answers.proofs.search_laws.marked_are_found.Goals as goal

pub returns : goal.returns
returns g c = marked_found g.D.Disk g.S.Store g.M.MetaLog
