use Rattle.laws_time_find.proofs.Damaging.{search_damage}
use Rattle.laws_time_find.proofs.laws.search_damage_is_of_logs.Goals as goal

pub returns : goal.returns
returns g c = search_damage g.S.Store.content g.S.Store.control g.M.MetaLog.content g.M.MetaLog.control
