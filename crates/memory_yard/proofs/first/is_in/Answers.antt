use Rattle.std.proofs.Common.{◌↔◌, IsTrue, subst, sym}
use Rattle.tier_base.specs.Told.{In}
use Rattle.memory_yard.proofs.Without.{any_in}
use Rattle.memory_yard.proofs.first.is_in.Goals as goal

pub returns : goal.returns
returns c = subst (λ b. IsTrue b ↔ In c.args.wanted c.args.partitions.now) (sym c.contains.ensures.value) (any_in c.args.partitions.now c.args.wanted)
