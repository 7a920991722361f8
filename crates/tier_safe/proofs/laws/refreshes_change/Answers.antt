use Rattle.tier_safe.proofs.Turning.{refreshes}
use Rattle.tier_safe.proofs.laws.refreshes_change.Goals as goal

pub returns : goal.returns
returns g c = refreshes g.S.Store.content g.S.Store.control g.M.MetaLog.content g.M.MetaLog.control
