use Rattle.cold_start.proofs.SweptWorldLaw.{sweep_central}
use Rattle.cold_start.proofs.laws.a_sweep_keeps_central.Goals as goal

pub returns : goal.returns
returns g c = sweep_central g.D.Disk g.S.Store g.M.MetaLog
