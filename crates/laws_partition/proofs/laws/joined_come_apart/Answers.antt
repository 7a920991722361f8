use Rattle.laws_partition.proofs.Parts.{parts_joined}
use Rattle.laws_partition.proofs.laws.joined_come_apart.Goals as goal

pub returns : goal.returns
returns c = parts_joined
