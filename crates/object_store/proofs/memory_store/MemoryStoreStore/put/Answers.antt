use Rattle.object_store.specs.declared.call.StoreCall.TheVariants as call
use Rattle.tier_base.specs.Told.{replaced}
use Rattle.object_store.proofs.Calls.{quiet, changes}
use Rattle.object_store.proofs.memory_store.MemoryStoreStore.put.Goals as goal

pub returns-clause-control : goal.returns-clause-control
returns-clause-control c =
    let m = c.args.self.now in
    rw c.give.ensures.fate (quiet call.Put _ m.faults c.note.new.self m.last_read c.note.ensures.ran)

pub returns-clause-content : goal.returns-clause-content
returns-clause-content c =
    let m = c.args.self.now in
    rw c.give.ensures.fate (changes m.shelf c.put_if.new.self c.is_done.result _ c.args.key.now (replaced c.args.bytes.now) _ c.in_ok-put_if.ensures.ok c.is_done.ensures (c.note.ensures.done m.last_read))
