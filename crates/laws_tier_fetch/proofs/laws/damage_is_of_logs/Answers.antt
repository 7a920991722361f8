use Rattle.laws_tier_fetch.proofs.Damaging.{damage_is_of_logs}
use Rattle.laws_tier_fetch.proofs.laws.damage_is_of_logs.Goals as goal

pub returns : goal.returns
returns g c = damage_is_of_logs g.S.Store.content g.S.Store.control g.M.MetaLog.content g.M.MetaLog.control
