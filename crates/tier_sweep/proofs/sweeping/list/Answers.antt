use Rattle.object_store.specs.declared.call.StoreCall.TheVariants.{Keys}
use Rattle.tier_sweep.proofs.Went.{store_ran}
use Rattle.tier_sweep.proofs.sweeping.list.Goals as goal

pub returns-in-Ok-clause-calls : goal.returns-in-Ok-clause-calls
returns-in-Ok-clause-calls g c = store_ran _ Keys _ _ c.in-Ok.ensures.control
