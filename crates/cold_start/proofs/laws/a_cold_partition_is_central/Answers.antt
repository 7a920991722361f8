use Rattle.cold_start.proofs.ColdSeen.{cold_central}
use Rattle.cold_start.proofs.laws.a_cold_partition_is_central.Goals as goal

pub returns : goal.returns
returns c = cold_central
