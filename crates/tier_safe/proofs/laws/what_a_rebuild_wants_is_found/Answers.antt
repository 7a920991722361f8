use Rattle.tier_safe.proofs.Lookups.{wanted_is_found}
use Rattle.tier_safe.proofs.laws.what_a_rebuild_wants_is_found.Goals as goal

pub returns : goal.returns
returns c = wanted_is_found
