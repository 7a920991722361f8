use Rattle.std.proofs.Common.{ap}
use Rattle.memory_yard.specs.Place.{same_partition, same_disk}
use Rattle.memory_yard.specs.Shelf.{at}
use Rattle.memory_yard.specs.Yard.{held_by}
use Rattle.memory_yard.proofs.Named.{same_joined, bare_row}
use Rattle.memory_yard.proofs.memory_yard.MemoryYard.bare.Goals as goal

pub returns-in_err-kept-clause-held : goal.returns-in_err-kept-clause-held
returns-in_err-kept-clause-held c =
    same_joined _ _ _ c.in_ok-tiers.ensures.held c.in_err-kept.ensures.held (λ p. ap (at same_partition p) c.in_ok-tiers.ensures.registries)
    (λ p k. ap (at same_disk (record { partition = p; broker = k })) c.in_err-kept.ensures.disks) (λ p. ap (at same_partition p) c.in_err-kept.ensures.stores) (λ p. ap (at same_partition p) c.in_err-kept.ensures.logs)

pub returns-clause-held : goal.returns-clause-held
returns-clause-held c =
    same_joined _ _ _ c.in_ok-tiers.ensures.held c.in_ok-kept.ensures.held (λ p. ap (at same_partition p) c.in_ok-tiers.ensures.registries)
    (λ p k. ap (at same_disk (record { partition = p; broker = k })) c.in_ok-kept.ensures.disks) (λ p. ap (at same_partition p) c.in_ok-kept.ensures.stores) (λ p. ap (at same_partition p) c.in_ok-kept.ensures.logs)

pub returns-clause-bare : goal.returns-clause-bare
returns-clause-bare c =
    let y = c.args.self.now in
    let y' = c.tiers.new.self in
    bare_row (held_by y.strays.items y.disks.slots y.stores.slots y.logs.slots y.registries.slots) (held_by y'.strays.items y'.disks.slots y'.stores.slots y'.logs.slots y'.registries.slots)
    c.in_ok-tiers.tiers c.in_ok-kept.kept c.as_slice.result.now c.as_slice-2.result.now c.without.result
    (λ p. ap (at same_partition p) c.in_ok-tiers.ensures.registries) c.in_ok-tiers.ensures.tiers c.in_ok-kept.ensures.kept c.as_slice.ensures c.as_slice-2.ensures c.without.ensures
