use Rattle.cold_start.proofs.ColdLaw.{cold_tier}
use Rattle.cold_start.proofs.laws.a_cold_tier_is_safe.Goals as goal

pub returns : goal.returns
returns c = cold_tier
