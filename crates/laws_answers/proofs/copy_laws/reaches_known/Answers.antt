use Rattle.laws_answers.proofs.SchedulesOfCopies.{reaches_known}
use Rattle.laws_answers.proofs.copy_laws.reaches_known.Goals as goal

pub returns : goal.returns
returns g c = reaches_known g.D.Disk g.S.Store g.M.MetaLog
