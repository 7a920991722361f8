use Rattle.laws_audit.proofs.Resting.{safe_readable}
use Rattle.laws_audit.proofs.laws.a_safe_tier_is_readable.Goals as goal

pub returns : goal.returns
returns c = safe_readable
