use Rattle.laws_time_find.proofs.GoingOn.{searches_are_right}
use Rattle.laws_time_find.proofs.laws.searches_are_right.Goals as goal

pub returns : goal.returns
returns g c = searches_are_right g.S.Store.content g.S.Store.control g.M.MetaLog.content g.M.MetaLog.control
