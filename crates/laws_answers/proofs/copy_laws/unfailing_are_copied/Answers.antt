use Rattle.laws_answers.proofs.Copied.{infallible_copied}
use Rattle.laws_answers.proofs.copy_laws.unfailing_are_copied.Goals as goal

pub returns : goal.returns
returns g c = infallible_copied g.D.Disk g.S.Store g.M.MetaLog
