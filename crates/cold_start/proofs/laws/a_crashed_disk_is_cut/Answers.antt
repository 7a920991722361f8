use Rattle.cold_start.proofs.CutLaw.{crashed_cut}
use Rattle.cold_start.proofs.laws.a_crashed_disk_is_cut.Goals as goal

pub returns : goal.returns
returns g c = crashed_cut g.D.Disk
