use Rattle.laws_answers.proofs.Served.{are_served}
use Rattle.laws_answers.proofs.fetch_laws.unhindered_are_served.Goals as goal

pub returns : goal.returns
returns g c = are_served g.D.Disk g.S.Store g.M.MetaLog
