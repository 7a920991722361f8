use Rattle.cold_start.proofs.Registries.{registries_scripted}
use Rattle.cold_start.proofs.laws.registries_keep_the_rules.Goals as goal

pub returns : goal.returns
returns g c = registries_scripted g.D.Disk g.S.Store g.M.MetaLog
