use Rattle.folder_yard.proofs.folder_store.FolderStoreStore.get_part.Goals as goal

pub returns-clause-control : goal.returns-clause-control
returns-clause-control g c = c.note_any-answer.ensures.ran c.args.self.now.last_read c.hand.new.last_read
