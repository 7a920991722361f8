use Rattle.tier_safe.proofs.Lookups.{found_stands}
use Rattle.tier_safe.proofs.laws.what_is_found_stands.Goals as goal

pub returns : goal.returns
returns c = found_stands
