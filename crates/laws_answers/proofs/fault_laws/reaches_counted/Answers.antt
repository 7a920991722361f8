use Rattle.laws_answers.proofs.FaultsOfJournals.{reaches_counted}
use Rattle.laws_answers.proofs.fault_laws.reaches_counted.Goals as goal

pub returns : goal.returns
returns g c = reaches_counted g.D.Disk g.S.Store g.M.MetaLog
