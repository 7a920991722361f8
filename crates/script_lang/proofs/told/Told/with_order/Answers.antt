use Rattle.script_lang.proofs.Sound.{sound-order}
use Rattle.script_lang.proofs.told.Told.with_order.Goals as goal

pub invariant_of-told : goal.invariant_of-told
invariant_of-told c =
    rw (c.in_ok-put.ensures.ok, c.in_ok-step.ensures)
    (sound-order _ c.args.self c.args.counts c.args.actor c.args.partition c.args.order c.args.at_once _ c.told.view_is c.told.invariant c.requires.range c.requires.counts c.requires.batch)
