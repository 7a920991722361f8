use Rattle.tier_sweep.proofs.Viewed.{refreshed_entries}
use Rattle.meta_log.specs.declared.call.MetaCall.TheVariants.{Read}
use Rattle.tier_sweep.proofs.Went.{meta_ran}
use Rattle.tier_sweep.proofs.sweeping.read_view.Goals as goal

pub returns-in-Ok-clause-entries : goal.returns-in-Ok-clause-entries
returns-in-Ok-clause-entries g c told =
    refreshed_entries (g.M.MetaLog.content c.args.meta.now) c.new-view.result c.refresh.new.view c.new-view.ensures told c.in-Ok.ensures.view

pub returns-in-Ok-clause-calls : goal.returns-in-Ok-clause-calls
returns-in-Ok-clause-calls g c = meta_ran _ Read _ _ c.in-Ok.ensures.control
