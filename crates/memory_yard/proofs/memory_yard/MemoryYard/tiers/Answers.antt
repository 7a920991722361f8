use Rattle.memory_yard.proofs.Named.{tiers_row}
use Rattle.memory_yard.proofs.memory_yard.MemoryYard.tiers.Goals as goal

pub returns-clause-tiers : goal.returns-clause-tiers
returns-clause-tiers c =
    let y = c.args.self.now in
    tiers_row y.strays.items y.disks.slots y.stores.slots y.logs.slots y.registries.slots c.new-found.result c.find.new.found c.find-2.new.found c.to_row.result
    c.new-found.ensures c.in_ok-find.ensures.found c.in_ok-find-2.ensures.found c.to_row.ensures.are
