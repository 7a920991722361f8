use Rattle.meta_log_file.proofs.Gating.{has_reopens}
use Rattle.meta_log_file.proofs.disk_log.DiskLog.close.Goals as goal

pub returns-clause-reopens : goal.returns-clause-reopens
returns-clause-reopens g c = has_reopens (g.D.Disk.content c.self.inside.disk) c.self.inside.marks.ends.items c.self.inside.marks.tail c.self.invariant
