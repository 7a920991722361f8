use Rattle.laws_time_find.proofs.Dates.{start_has_passed}
use Rattle.laws_time_find.proofs.laws.a_start_has_passed.Goals as goal

pub returns : goal.returns
returns c = start_has_passed
