use Rattle.meta_log_file.proofs.Gating.{has_reopens}
use Rattle.meta_log_file.proofs.disk_log.DiskLog.reopens.Goals as goal

pub returns : goal.returns
returns g c = rw (← c.self.view_is) (has_reopens (g.D.Disk.content c.self.inside.disk) c.self.inside.marks.ends.items c.self.inside.marks.tail c.self.invariant)
