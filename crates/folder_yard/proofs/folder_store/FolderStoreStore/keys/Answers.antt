use Rattle.object_store.specs.declared.call.StoreCall.TheVariants as call
use Rattle.device_tally.proofs.Tallies.{quiet}
use Rattle.folder_yard.proofs.folder_store.FolderStoreStore.keys.Goals as goal

pub returns-clause-control : goal.returns-clause-control
returns-clause-control g c =
    let s = c.args.self.now in
    quiet call.Keys _ s.tally c.note_any.new.self s.last_read c.note_any.ensures.ran
