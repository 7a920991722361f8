use Rattle.meta_log.specs.declared.call.MetaCall.TheVariants.{Append}
use Rattle.tier_sweep.proofs.Went.{meta_ran}
use Rattle.tier_sweep.proofs.telling.tell.Goals as goal

pub returns-in-Ok-clause-calls : goal.returns-in-Ok-clause-calls
returns-in-Ok-clause-calls g c = meta_ran _ Append _ _ c.in-Ok.ensures.control
