use Rattle.disk_model.specs.declared.call.DiskCall.TheVariants as call
use Rattle.disk_model.proofs.Attempts.{quiet}
use Rattle.disk_model.proofs.deaf_disk.DeafDiskDisk.append.Goals as goal

pub returns-clause-control : goal.returns-clause-control
returns-clause-control c =
    let d = c.args.self.now in
    rw c.give.ensures.fate (quiet call.Append _ d.faults c.note.new.self d.last_read c.note.ensures.ran)
