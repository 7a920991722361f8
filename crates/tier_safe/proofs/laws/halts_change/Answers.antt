use Rattle.tier_safe.proofs.Turning.{halts}
use Rattle.tier_safe.proofs.laws.halts_change.Goals as goal

pub returns : goal.returns
returns g c = halts g.S.Store.content g.S.Store.control g.M.MetaLog.content g.M.MetaLog.control
