use Rattle.laws_answers.proofs.ToldOfJournals.{reaches_told}
use Rattle.laws_answers.proofs.fault_laws.reaches_told.Goals as goal

pub returns : goal.returns
returns g c = reaches_told g.D.Disk g.S.Store g.M.MetaLog
