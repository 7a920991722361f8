use Rattle.plain_log.proofs.Grows.{log_rises}
use Rattle.plain_log.proofs.laws.epochs_never_fall.Goals as goal

pub returns : goal.returns
returns c = log_rises
