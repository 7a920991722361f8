use Rattle.cold_start.proofs.StandLaw.{keeps_cold}
use Rattle.cold_start.proofs.laws.a_power_cut_keeps_cold.Goals as goal

pub returns : goal.returns
returns g c = keeps_cold g.D.Disk g.S.Store g.M.MetaLog
