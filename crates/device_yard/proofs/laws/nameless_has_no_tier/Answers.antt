use Rattle.device_yard.proofs.Nameless.{nameless_has_no_tier}
use Rattle.device_yard.proofs.laws.nameless_has_no_tier.Goals as goal

pub returns : goal.returns
returns g c = nameless_has_no_tier g.D.Disk.content g.S.Store.content g.M.MetaLog.content
