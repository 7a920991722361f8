use Rattle.std.proofs.Common.{◌≡◌, ◌⊎◌, ◌↔◌, sym, subst}
use Rattle.tier_base.specs.Told.{In}
use Rattle.device_yard.proofs.Sets.{inserted}
use Rattle.device_yard.proofs.partition_set.PartitionSet.insert.Goals as goal

pub returns-clause-ok : goal.returns-clause-ok
returns-clause-ok c = λ p.
    let q = c.args.partition in
    subst (λ xs. In p c.insert.new.self.keys ↔ (In p xs ⊎ (p ≡ q))) c.self.view_is
    (subst (λ ys. In p ys ↔ (In p c.self.inside.found.keys ⊎ (p ≡ q))) (sym c.in_ok-insert.ensures.keys) (inserted c.self.inside.found.keys q p))
