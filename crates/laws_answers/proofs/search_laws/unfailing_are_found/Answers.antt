use Rattle.laws_answers.proofs.Found.{infallible_found}
use Rattle.laws_answers.proofs.search_laws.unfailing_are_found.Goals as goal

pub returns : goal.returns
returns g c = infallible_found g.D.Disk g.S.Store g.M.MetaLog
