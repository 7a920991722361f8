use Rattle.laws_answers.proofs.Found.{are_found}
use Rattle.laws_answers.proofs.search_laws.unhindered_are_found.Goals as goal

pub returns : goal.returns
returns g c = are_found g.D.Disk g.S.Store g.M.MetaLog
