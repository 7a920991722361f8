use Rattle.run_again.proofs.Refused.{refusals_continue}
use Rattle.run_again.proofs.laws.refusals_continue.Goals as goal

pub returns : goal.returns
returns g c = refusals_continue g.D.Disk g.S.Store g.M.MetaLog g.met.D.Disk.lawful
