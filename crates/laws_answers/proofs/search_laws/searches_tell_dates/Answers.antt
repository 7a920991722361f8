use Rattle.laws_answers.proofs.SearchesTell.{tell_dates}
use Rattle.laws_answers.proofs.search_laws.searches_tell_dates.Goals as goal

pub returns : goal.returns
returns g c = tell_dates g.D.Disk g.S.Store g.M.MetaLog
