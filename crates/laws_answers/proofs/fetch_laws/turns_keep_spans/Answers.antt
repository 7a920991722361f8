use Rattle.laws_answers.proofs.KnownOfFetches.{keep_spans}
use Rattle.laws_answers.proofs.fetch_laws.turns_keep_spans.Goals as goal

pub returns : goal.returns
returns g c = keep_spans g.D.Disk g.S.Store g.M.MetaLog
