use Rattle.trace_check.proofs.WrittenRuns.{runs_whole}
use Rattle.trace_check.proofs.laws.runs_are_whole.Goals as goal

pub returns : goal.returns
returns c = runs_whole
