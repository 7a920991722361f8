use Rattle.laws_answers.proofs.Copied.{are_copied}
use Rattle.laws_answers.proofs.copy_laws.unhindered_are_copied.Goals as goal

pub returns : goal.returns
returns g c = are_copied g.D.Disk g.S.Store g.M.MetaLog
