use Rattle.cold_start.proofs.StandLaw.{closed_left}
use Rattle.cold_start.proofs.laws.closed_disks_are_left.Goals as goal

pub returns : goal.returns
returns g c = closed_left g.D.Disk
