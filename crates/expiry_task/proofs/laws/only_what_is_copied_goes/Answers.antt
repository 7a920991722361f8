use Rattle.expiry_task.proofs.Copied.{raised_copied, gone_copied}
use Rattle.expiry_task.proofs.laws.only_what_is_copied_goes.Goals as goal

pub returns-clause-reach : goal.returns-clause-reach
returns-clause-reach c = raised_copied

pub returns-clause-each : goal.returns-clause-each
returns-clause-each c = gone_copied
