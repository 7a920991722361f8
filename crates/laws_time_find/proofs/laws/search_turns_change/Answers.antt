use Rattle.laws_time_find.proofs.Turning.{search_turns}
use Rattle.laws_time_find.proofs.laws.search_turns_change.Goals as goal

pub returns : goal.returns
returns g c = search_turns g.S.Store.content g.S.Store.control g.M.MetaLog.content g.M.MetaLog.control
