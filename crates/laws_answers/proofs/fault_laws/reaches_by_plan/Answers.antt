use Rattle.laws_answers.proofs.FailedByPlan.{reaches_by_plan}
use Rattle.laws_answers.proofs.fault_laws.reaches_by_plan.Goals as goal

pub returns : goal.returns
returns g c = reaches_by_plan g.D.Disk g.S.Store g.M.MetaLog g.met.D.Disk.planned g.met.S.Store.planned g.met.M.MetaLog.planned
