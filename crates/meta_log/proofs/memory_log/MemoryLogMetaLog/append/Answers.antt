use Rattle.std.specs.Prelude.{[]}
use Rattle.meta_log.specs.declared.call.MetaCall.TheVariants as call
use Rattle.meta_log.proofs.Calls.{quiet, grows}
use Rattle.meta_log.proofs.memory_log.MemoryLogMetaLog.append.Goals as goal

pub returns-clause-control : goal.returns-clause-control
returns-clause-control c =
    let m = c.args.self.now in
    rw c.give.ensures.fate (quiet call.Append _ m.faults c.note.new.self [] c.note.ensures.ran)

pub returns-clause-content : goal.returns-clause-content
returns-clause-content c =
    let m = c.args.self.now in
    rw c.give.ensures.fate (grows m.notes c.append_if.new.self c.is_done.result _ c.args.note.now _ c.in_ok-append_if.ensures.ok c.is_done.ensures (c.note.ensures.done []))
