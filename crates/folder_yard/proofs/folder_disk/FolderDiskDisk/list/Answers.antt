use Rattle.disk_model.specs.declared.call.DiskCall.TheVariants as call
use Rattle.device_tally.proofs.Tallies.{quiet}
use Rattle.folder_yard.proofs.folder_disk.FolderDiskDisk.list.Goals as goal

pub returns-clause-control : goal.returns-clause-control
returns-clause-control g c =
    let d = c.args.self.now in
    quiet call.List _ d.tally c.note_any.new.self d.last_read c.note_any.ensures.ran
