use Rattle.laws_answers.proofs.CopiesHaveCauses.{begin_on}
use Rattle.laws_answers.proofs.copy_laws.copies_begin_where_on.Goals as goal

pub returns : goal.returns
returns g c = begin_on g.D.Disk g.S.Store g.M.MetaLog
