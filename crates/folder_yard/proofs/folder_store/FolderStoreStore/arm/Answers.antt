use Rattle.folder_yard.proofs.folder_store.FolderStoreStore.arm.Goals as goal

pub returns-clause-control : goal.returns-clause-control
returns-clause-control g c = c.arm.ensures c.args.self.now.last_read
