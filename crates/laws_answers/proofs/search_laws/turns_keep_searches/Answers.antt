use Rattle.laws_answers.proofs.KnownOfSearches.{keep_searches}
use Rattle.laws_answers.proofs.search_laws.turns_keep_searches.Goals as goal

pub returns : goal.returns
returns g c = keep_searches g.D.Disk g.S.Store g.M.MetaLog
