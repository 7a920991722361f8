use Rattle.tier_sweep.proofs.Sweeps.{under_keeps}
use Rattle.tier_sweep.proofs.laws.a_sweep_under_way_keeps_finished_copies.Goals as goal

pub returns : goal.returns
returns c = under_keeps
