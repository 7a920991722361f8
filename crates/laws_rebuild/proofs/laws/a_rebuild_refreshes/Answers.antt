use Rattle.laws_rebuild.proofs.Refreshing.{rebuild_refreshes}
use Rattle.laws_rebuild.proofs.laws.a_rebuild_refreshes.Goals as goal

pub returns : goal.returns
returns g c = rebuild_refreshes g.S.Store.content g.S.Store.control g.M.MetaLog.content g.M.MetaLog.control
