use Rattle.disk_model.specs.declared.call.DiskCall.TheVariants as call
use Rattle.disk_model.proofs.Attempts.{sync_attempt, sync_durable, quiet}
use Rattle.disk_model.proofs.memory_disk.MemoryDiskDisk.sync.Goals as goal

pub returns-clause-control : goal.returns-clause-control
returns-clause-control c =
    let m = c.args.self.now in
    quiet call.Sync _ m.faults c.note.new.self m.last_read c.note.ensures.ran

pub returns-clause-content : goal.returns-clause-content
returns-clause-content c = sync_attempt c.args.self.now.history c.sync_if.new.history c.is_done.result c.args.name c.sync_if.ensures

pub returns-clause-durable : goal.returns-clause-durable
returns-clause-durable c = sync_durable c.note.result c.ending-ending.result c.args.self.now.history c.sync_if.new.history c.is_done.result c.args.name c.note.ensures.ok c.is_done.ensures c.sync_if.ensures
