use Rattle.plain_executor.proofs.Taken.{safe_after}
use Rattle.plain_executor.proofs.plain.Plain.step.Goals as goal

pub invariant_of-self-2 : goal.invariant_of-self-2
invariant_of-self-2 c =
    let ok = c.in_ok-taken.ensures in
    safe_after c.self.inside.state c.step.new.p c.args.order.now c.args.entry.now c.in_ok-taken.taken c.steps_keep_safe.ensures c.self.invariant ok.ok
