use Rattle.cold_start.proofs.ColdWorldLaw.{power_cut}
use Rattle.cold_start.proofs.laws.a_power_cut_keeps_central.Goals as goal

pub returns : goal.returns
returns g c = power_cut g.D.Disk g.S.Store g.M.MetaLog
