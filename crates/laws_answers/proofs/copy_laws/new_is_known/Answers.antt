use Rattle.laws_answers.proofs.KnownOfCopies.{new_known}
use Rattle.laws_answers.proofs.copy_laws.new_is_known.Goals as goal

pub returns : goal.returns
returns g c = new_known g.D.Disk g.S.Store g.M.MetaLog
