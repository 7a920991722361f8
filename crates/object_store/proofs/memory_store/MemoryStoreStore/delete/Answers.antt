use Rattle.object_store.specs.declared.call.StoreCall.TheVariants as call
use Rattle.tier_base.specs.Told.{removed}
use Rattle.object_store.proofs.Calls.{quiet, changes}
use Rattle.object_store.proofs.memory_store.MemoryStoreStore.delete.Goals as goal

pub returns-clause-control : goal.returns-clause-control
returns-clause-control c =
    let m = c.args.self.now in
    quiet call.Delete _ m.faults c.note.new.self m.last_read c.note.ensures.ran

pub returns-clause-content : goal.returns-clause-content
returns-clause-content c =
    let m = c.args.self.now in
    changes m.shelf c.remove_if.new.self c.is_done.result _ c.args.key.now removed _ c.remove_if.ensures c.is_done.ensures (c.note.ensures.done m.last_read)
