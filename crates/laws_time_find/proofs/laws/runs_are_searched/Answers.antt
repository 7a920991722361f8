use Rattle.laws_time_find.proofs.Searched.{runs_are_searched}
use Rattle.laws_time_find.proofs.laws.runs_are_searched.Goals as goal

pub returns : goal.returns
returns c = runs_are_searched
