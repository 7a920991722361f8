use Rattle.local_log.proofs.Cohering.{log_coheres}
use Rattle.local_log.proofs.log.LocalLog.coheres.Goals as goal

pub returns : goal.returns
returns g c = rw (← c.self.view_is) (λ unbroken t. log_coheres g.D.Disk.content c.self.inside c.self.invariant unbroken t)
