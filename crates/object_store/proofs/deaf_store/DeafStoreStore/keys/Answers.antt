use Rattle.object_store.specs.declared.call.StoreCall.TheVariants as call
use Rattle.object_store.proofs.Calls.{quiet}
use Rattle.object_store.proofs.deaf_store.DeafStoreStore.keys.Goals as goal

pub returns-clause-control : goal.returns-clause-control
returns-clause-control c =
    let m = c.args.self.now in
    rw c.give.ensures.fate (quiet call.Keys _ m.faults c.note.new.self m.last_read c.note.ensures.ran)
