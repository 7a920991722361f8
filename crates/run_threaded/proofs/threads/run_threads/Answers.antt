use Rattle.std.proofs.Common.{◌∙◌}
use Rattle.std.proofs.lemmas.Result.{IfOk-weaker}
use Rattle.run_threaded.proofs.threads.run_threads.Goals as goal

pub returns : goal.returns
returns g c = record { count = IfOk-weaker c.unlocked.result _ _ (λ back same. same ∙ c.in_ok-locks.ensures) c.unlocked.ensures }
