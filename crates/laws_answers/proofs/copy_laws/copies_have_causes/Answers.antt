use Rattle.laws_answers.proofs.CopiesHaveCauses.{have_causes}
use Rattle.laws_answers.proofs.copy_laws.copies_have_causes.Goals as goal

pub returns : goal.returns
returns g c = have_causes g.D.Disk g.S.Store g.M.MetaLog
