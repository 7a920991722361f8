use Rattle.laws_time_find.proofs.GoingOn.{searches_go_on}
use Rattle.laws_time_find.proofs.laws.searches_go_on.Goals as goal

pub returns : goal.returns
returns g c = searches_go_on g.S.Store.content g.S.Store.control g.M.MetaLog.content g.M.MetaLog.control
