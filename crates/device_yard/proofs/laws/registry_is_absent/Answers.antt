use Rattle.device_yard.proofs.Nameless.{registry_is_absent}
use Rattle.device_yard.proofs.laws.registry_is_absent.Goals as goal

pub returns : goal.returns
returns g c = registry_is_absent g.D.Disk.content g.S.Store.content g.M.MetaLog.content
