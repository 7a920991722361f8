use Rattle.copy_task.proofs.Telling.{told_may}
use Rattle.copy_task.proofs.copying.Copying.finish_note.Goals as goal

pub returns-clause-rules : goal.returns-clause-rules
returns-clause-rules c = (λ e. absurd (cc (e)), told_may c.args.self.now c.in_ok-custom.field-0 c.in_ok-custom.ensures.custom)
