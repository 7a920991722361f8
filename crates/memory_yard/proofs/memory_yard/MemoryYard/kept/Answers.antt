use Rattle.memory_yard.proofs.Named.{kept_row}
use Rattle.memory_yard.proofs.memory_yard.MemoryYard.kept.Goals as goal

pub returns-clause-kept : goal.returns-clause-kept
returns-clause-kept c =
    let y = c.args.self.now in
    kept_row y.strays.items y.disks.slots y.stores.slots y.logs.slots y.registries.slots c.new-found.result c.find.new.found c.to_row.result
    c.new-found.ensures c.in_ok-find.ensures.found c.to_row.ensures.are
