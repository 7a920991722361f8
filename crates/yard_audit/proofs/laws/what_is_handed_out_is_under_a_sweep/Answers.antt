use Rattle.yard_audit.proofs.Sweeps.{handed_under}
use Rattle.yard_audit.proofs.laws.what_is_handed_out_is_under_a_sweep.Goals as goal

pub returns : goal.returns
returns g c = handed_under g.Y.D.Disk.content g.Y.S.Store.content g.Y.M.MetaLog.content
