use Rattle.cold_start.proofs.CutLaw.{kept_disk_cut}
use Rattle.cold_start.proofs.laws.a_kept_disk_is_cut.Goals as goal

pub returns : goal.returns
returns g c = kept_disk_cut g.D.Disk
