use Rattle.laws_answers.proofs.KnownOfFetches.{new_spans}
use Rattle.laws_answers.proofs.fetch_laws.new_has_spans.Goals as goal

pub returns : goal.returns
returns g c = new_spans g.D.Disk g.S.Store g.M.MetaLog
