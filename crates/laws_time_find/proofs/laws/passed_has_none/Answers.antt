use Rattle.laws_time_find.proofs.Dates.{passed_has_none}
use Rattle.laws_time_find.proofs.laws.passed_has_none.Goals as goal

pub returns : goal.returns
returns c = passed_has_none
