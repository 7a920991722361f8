use Rattle.object_store.specs.declared.call.StoreCall.TheVariants.{Delete}
use Rattle.tier_sweep.proofs.Went.{store_ran}
use Rattle.tier_sweep.proofs.taking.take.Goals as goal

pub returns-in-Ok-clause-calls : goal.returns-in-Ok-clause-calls
returns-in-Ok-clause-calls g c = store_ran _ Delete _ _ c.in-Ok.ensures.control
