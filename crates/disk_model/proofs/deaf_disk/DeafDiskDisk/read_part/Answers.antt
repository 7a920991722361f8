use Rattle.disk_model.proofs.deaf_disk.DeafDiskDisk.read_part.Goals as goal

pub returns-clause-control : goal.returns-clause-control
returns-clause-control c = rw c.give.ensures.fate (c.note-outcome.ensures.ran c.args.self.now.last_read c.hand.new.last_read)
