use Rattle.disk_model.specs.declared.call.DiskCall.TheVariants as call
use Rattle.disk_model.proofs.Attempts.{remove_attempt, quiet}
use Rattle.disk_model.proofs.memory_disk.MemoryDiskDisk.remove.Goals as goal

pub returns-clause-control : goal.returns-clause-control
returns-clause-control c =
    let m = c.args.self.now in
    quiet call.Remove _ m.faults c.note.new.self m.last_read c.note.ensures.ran

pub returns-clause-content : goal.returns-clause-content
returns-clause-content c =
    let m = c.args.self.now in
    remove_attempt m.history c.remove_if.new.history c.is_done.result _ c.args.name _ c.remove_if.ensures c.is_done.ensures (c.note.ensures.done m.last_read)
