use Rattle.std.specs.Prelude.{[]}
use Rattle.meta_log.specs.declared.call.MetaCall.TheVariants as call
use Rattle.meta_log.proofs.Calls.{quiet}
use Rattle.meta_log.proofs.memory_log.MemoryLogMetaLog.read.Goals as goal

pub returns-clause-control : goal.returns-clause-control
returns-clause-control c =
    let m = c.args.self.now in
    rw c.give.ensures.fate (quiet call.Read _ m.faults c.note.new.self [] c.note.ensures.ran)
