use Rattle.laws_audit.proofs.Resting.{safe_left}
use Rattle.laws_audit.proofs.laws.a_safe_tier_has_left_objects_at_most.Goals as goal

pub returns : goal.returns
returns c = safe_left
