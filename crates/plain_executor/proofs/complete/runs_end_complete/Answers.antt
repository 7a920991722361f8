use Rattle.plain_executor.proofs.Completion.{run_ends}
use Rattle.plain_executor.proofs.complete.runs_end_complete.Goals as goal

pub returns : goal.returns
returns c = run_ends
