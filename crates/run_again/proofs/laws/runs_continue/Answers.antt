use Rattle.run_again.proofs.Handing.{runs_continue}
use Rattle.run_again.proofs.laws.runs_continue.Goals as goal

pub returns : goal.returns
returns g c = runs_continue g.D.Disk g.S.Store g.M.MetaLog
