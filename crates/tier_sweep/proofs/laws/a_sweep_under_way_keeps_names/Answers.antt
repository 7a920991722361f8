use Rattle.tier_sweep.proofs.Sweeps.{under_names}
use Rattle.tier_sweep.proofs.laws.a_sweep_under_way_keeps_names.Goals as goal

pub returns : goal.returns
returns c = under_names
