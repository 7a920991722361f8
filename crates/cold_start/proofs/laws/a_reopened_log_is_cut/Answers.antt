use Rattle.cold_start.proofs.CutLaw.{reopened_cut}
use Rattle.cold_start.proofs.laws.a_reopened_log_is_cut.Goals as goal

pub returns : goal.returns
returns g c = reopened_cut g.D.Disk
