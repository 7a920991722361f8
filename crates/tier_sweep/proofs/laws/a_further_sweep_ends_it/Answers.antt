use Rattle.tier_sweep.proofs.Sweeps.{further_ends}
use Rattle.tier_sweep.proofs.laws.a_further_sweep_ends_it.Goals as goal

pub returns : goal.returns
returns c = further_ends
