use Rattle.laws_time_find.proofs.Dates.{passed_is_kept}
use Rattle.laws_time_find.proofs.laws.passed_is_kept.Goals as goal

pub returns : goal.returns
returns c = passed_is_kept
