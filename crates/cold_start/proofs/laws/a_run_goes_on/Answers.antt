use Rattle.cold_start.proofs.StandLaw.{runs_go_on}
use Rattle.cold_start.proofs.laws.a_run_goes_on.Goals as goal

pub returns : goal.returns
returns g c = runs_go_on g.D.Disk g.S.Store g.M.MetaLog
