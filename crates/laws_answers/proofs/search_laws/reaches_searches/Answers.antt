use Rattle.laws_answers.proofs.SchedulesOfSearches.{reaches_searches}
use Rattle.laws_answers.proofs.search_laws.reaches_searches.Goals as goal

pub returns : goal.returns
returns g c = reaches_searches g.D.Disk g.S.Store g.M.MetaLog
