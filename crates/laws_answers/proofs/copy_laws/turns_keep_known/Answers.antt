use Rattle.laws_answers.proofs.KnownOfCopies.{keep_known}
use Rattle.laws_answers.proofs.copy_laws.turns_keep_known.Goals as goal

pub returns : goal.returns
returns g c = keep_known g.D.Disk g.S.Store g.M.MetaLog
