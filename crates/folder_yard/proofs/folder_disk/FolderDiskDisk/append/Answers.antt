use Rattle.disk_model.specs.declared.call.DiskCall.TheVariants as call
use Rattle.device_tally.proofs.Tallies.{quiet}
use Rattle.folder_yard.proofs.folder_disk.FolderDiskDisk.append.Goals as goal

pub returns-clause-control : goal.returns-clause-control
returns-clause-control g c =
    let d = c.args.self.now in
    rw c.give.ensures.fate (quiet call.Append _ d.tally c.note.new.self d.last_read c.note.ensures.ran)
