use Rattle.disk_model.specs.declared.call.DiskCall.TheVariants as call
use Rattle.disk_model.proofs.Attempts.{replace_attempt, quiet}
use Rattle.disk_model.proofs.memory_disk.MemoryDiskDisk.replace.Goals as goal

pub returns-clause-control : goal.returns-clause-control
returns-clause-control c =
    let m = c.args.self.now in
    rw c.give.ensures.fate (quiet call.Replace _ m.faults c.note.new.self m.last_read c.note.ensures.ran)

pub returns-clause-content : goal.returns-clause-content
returns-clause-content c =
    let m = c.args.self.now in
    rw c.give.ensures.fate (replace_attempt m.history c.replace_if.new.history c.is_done.result _ c.args.name c.args.bytes.now c.is_ok.result _ c.in_ok-replace_if.ensures.ok c.is_done.ensures (c.note.ensures.done m.last_read))
