use Rattle.plain_executor.proofs.moving.break_lead.Goals as goal

pub break_off-requires : goal.break_off-requires
break_off-requires c = c.requires.stops c.at_mut-x.result.now c.at_mut-x.ensures.value
