use Rattle.std.specs.Prelude.{[]}
use Rattle.meta_log_file.proofs.Leaving.{keeps_told}
use Rattle.meta_log_file.proofs.disk_log.DiskLogMetaLog.arm.Goals as goal

pub returns-clause-control : goal.returns-clause-control
returns-clause-control g c = rw (← c.self.view_is) (c.arm-2.ensures [])

pub returns-clause-content : goal.returns-clause-content
returns-clause-content g c = rw (← c.self.view_is) (keeps_told (g.D.Disk.content c.self.inside.disk) (g.D.Disk.content c.arm.new.self) c.arm.ensures.content)
