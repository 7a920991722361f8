use Rattle.cold_start.proofs.ColdSeen.{cold_tier_views}
use Rattle.cold_start.proofs.laws.cold_broker_tiers_are_seen.Goals as goal

pub returns : goal.returns
returns c = cold_tier_views
