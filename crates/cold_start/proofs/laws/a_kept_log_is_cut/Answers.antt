use Rattle.cold_start.proofs.CutLaw.{kept_log_cut}
use Rattle.cold_start.proofs.laws.a_kept_log_is_cut.Goals as goal

pub returns : goal.returns
returns g c = kept_log_cut g.M.MetaLog
