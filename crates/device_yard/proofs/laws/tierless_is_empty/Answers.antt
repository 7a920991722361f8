use Rattle.device_yard.proofs.Nameless.{tierless_is_empty}
use Rattle.device_yard.proofs.laws.tierless_is_empty.Goals as goal

pub returns : goal.returns
returns g c = tierless_is_empty g.D.Disk.content g.S.Store.content g.M.MetaLog.content
