use Rattle.remote_find.proofs.Covering.{covered}
use Rattle.remote_find.proofs.laws.what_is_covered_has_pieces.Goals as goal

pub returns : goal.returns
returns c = covered
