use Rattle.tier_base.specs.Device.{Went}
use Rattle.tier_audit.proofs.Asked.{reads_none, went_no_fault}
use Rattle.tier_audit.proofs.copies.check_entry.Goals as goal

pub returns-in-CopyStarted-clause-reads : goal.returns-in-CopyStarted-clause-reads
returns-in-CopyStarted-clause-reads g c = reads_none Went (g.S.Store.control c.args.store.now) went_no_fault
