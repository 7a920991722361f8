use Rattle.laws_answers.proofs.SearchesTell.{none_damaged}
use Rattle.laws_answers.proofs.search_laws.no_search_is_damaged.Goals as goal

pub returns : goal.returns
returns g c = none_damaged g.D.Disk g.S.Store g.M.MetaLog
