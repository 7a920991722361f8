use Rattle.cold_start.proofs.StandLaw.{leaves_cold}
use Rattle.cold_start.proofs.laws.a_power_cut_leaves_cold.Goals as goal

pub returns : goal.returns
returns g c = leaves_cold g.D.Disk g.S.Store g.M.MetaLog
