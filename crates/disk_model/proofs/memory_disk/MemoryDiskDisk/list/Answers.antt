use Rattle.disk_model.specs.declared.call.DiskCall.TheVariants as call
use Rattle.disk_model.proofs.Attempts.{quiet}
use Rattle.disk_model.proofs.memory_disk.MemoryDiskDisk.list.Goals as goal

pub returns-clause-control : goal.returns-clause-control
returns-clause-control c =
    let m = c.args.self.now in
    rw c.give.ensures.fate (quiet call.List _ m.faults c.note.new.self m.last_read c.note.ensures.ran)
