use Rattle.std.proofs.Common.{subst}
use Rattle.memory_yard.specs.First.{IsNameIn, IsFirstWith}
use Rattle.memory_yard.specs.Yard.{held_by}
use Rattle.memory_yard.proofs.Named.{first_of_all}
use Rattle.memory_yard.proofs.memory_yard.MemoryYard.least.Goals as goal

pub returns-clause-first : goal.returns-clause-first
returns-clause-first c =
    let y = c.args.self.now in
    first_of_all (held_by y.strays.items y.disks.slots y.stores.slots y.logs.slots y.registries.slots) c.as_slice.result.now _ _ _ c.as_slice.ensures.value
    c.in_ok-first.ensures c.in_ok-bare.ensures.bare
    (subst (λ bare. IsFirstWith (IsNameIn bare) c.in_ok-first.first c.offer_partitions.new.first) c.as_slice-2.ensures c.in_ok-offer_partitions.ensures)
