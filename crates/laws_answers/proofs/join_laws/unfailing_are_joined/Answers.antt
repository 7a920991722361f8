use Rattle.laws_answers.proofs.Joined.{infallible_joined}
use Rattle.laws_answers.proofs.join_laws.unfailing_are_joined.Goals as goal

pub returns : goal.returns
returns g c = infallible_joined g.D.Disk g.S.Store g.M.MetaLog
