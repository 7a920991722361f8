use Rattle.laws_answers.proofs.Served.{infallible_served}
use Rattle.laws_answers.proofs.fetch_laws.unfailing_are_served.Goals as goal

pub returns : goal.returns
returns g c = infallible_served g.D.Disk g.S.Store g.M.MetaLog
