use Rattle.remote_view.proofs.Finding.{found_best}
use Rattle.remote_view.proofs.laws.what_is_found_is_best.Goals as goal

pub returns : goal.returns
returns c = found_best
