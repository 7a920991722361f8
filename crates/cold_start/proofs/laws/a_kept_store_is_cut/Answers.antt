use Rattle.cold_start.proofs.SweptWorldLaw.{kept_cut}
use Rattle.cold_start.proofs.laws.a_kept_store_is_cut.Goals as goal

pub returns : goal.returns
returns c = kept_cut
