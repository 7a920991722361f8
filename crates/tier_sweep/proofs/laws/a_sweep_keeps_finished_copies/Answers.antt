use Rattle.tier_sweep.proofs.Sweeps.{swept_keeps}
use Rattle.tier_sweep.proofs.laws.a_sweep_keeps_finished_copies.Goals as goal

pub returns : goal.returns
returns c = swept_keeps
