use Rattle.tier_safe.proofs.Lookups.{lacking_is_found}
use Rattle.tier_safe.proofs.laws.what_a_log_lacks_is_found.Goals as goal

pub returns : goal.returns
returns c = lacking_is_found
