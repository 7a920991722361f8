use Rattle.laws_audit.proofs.Resting.{swept_whole}
use Rattle.laws_audit.proofs.laws.a_swept_tier_is_whole.Goals as goal

pub returns : goal.returns
returns c = swept_whole
