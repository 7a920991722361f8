use Rattle.partition_world.proofs.CountingWants.{halts_quietly}
use Rattle.partition_world.proofs.laws.halts_meet_no_fault.Goals as goal

pub returns : goal.returns
returns g c = halts_quietly g.D.Disk g.S.Store g.M.MetaLog
