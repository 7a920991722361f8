use Rattle.laws_answers.proofs.SchedulesOfFetches.{reaches_spans}
use Rattle.laws_answers.proofs.fetch_laws.reaches_spans.Goals as goal

pub returns : goal.returns
returns g c = reaches_spans g.D.Disk g.S.Store g.M.MetaLog
