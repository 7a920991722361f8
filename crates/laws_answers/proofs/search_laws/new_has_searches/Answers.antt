use Rattle.laws_answers.proofs.KnownOfSearches.{new_searches}
use Rattle.laws_answers.proofs.search_laws.new_has_searches.Goals as goal

pub returns : goal.returns
returns g c = new_searches g.D.Disk g.S.Store g.M.MetaLog
