use Rattle.tier_sweep.proofs.Sweeps.{swept_entries}
use Rattle.tier_sweep.proofs.laws.a_sweep_ends_what_is_under_way.Goals as goal

pub returns : goal.returns
returns c = swept_entries
