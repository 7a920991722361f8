use Rattle.laws_answers.proofs.Joined.{are_joined}
use Rattle.laws_answers.proofs.join_laws.unhindered_are_joined.Goals as goal

pub returns : goal.returns
returns g c = are_joined g.D.Disk g.S.Store g.M.MetaLog
