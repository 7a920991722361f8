use Rattle.script_lang.proofs.Fitting.{lists-step}
use Rattle.script_lang.proofs.partitions.Partitions.with_lists.Goals as goal

pub loop-slot-preserved : goal.loop-slot-preserved
loop-slot-preserved c =
    let step = lists-step c.loop-slot.partitions c.put_list.new.self c.loop-slot.actor c.saturating_add-actor.result c.loop-slot.slot-iterator.rest.items c.next.new.self.rest.items c.in-Some.slot _ c.in-Some.ensures.steps.0 c.in_ok-put_list.ensures c.saturating_add-actor.ensures c.loop-slot.invariant.count c.loop-slot.invariant.few c.loop-slot.invariant.put in
    record { count = step.0; few = step.1; put = step.2 }
