use Rattle.laws_partition.proofs.CompleteLaw.{fresh_central}
use Rattle.laws_partition.proofs.laws.fresh_is_central.Goals as goal

pub returns : goal.returns
returns c = fresh_central
