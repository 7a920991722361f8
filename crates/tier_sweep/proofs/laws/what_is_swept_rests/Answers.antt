use Rattle.tier_sweep.proofs.Sweeps.{swept_rests}
use Rattle.tier_sweep.proofs.laws.what_is_swept_rests.Goals as goal

pub returns : goal.returns
returns c = swept_rests
