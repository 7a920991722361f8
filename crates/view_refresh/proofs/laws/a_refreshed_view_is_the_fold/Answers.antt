use Rattle.view_refresh.proofs.Feeding.{refreshed}
use Rattle.view_refresh.proofs.laws.a_refreshed_view_is_the_fold.Goals as goal

pub returns : goal.returns
returns g c = λ log. refreshed (g.M.MetaLog.content log)
