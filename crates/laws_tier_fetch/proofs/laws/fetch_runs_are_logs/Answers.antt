use Rattle.laws_tier_fetch.proofs.Running.{runs_are_logs}
use Rattle.laws_tier_fetch.proofs.laws.fetch_runs_are_logs.Goals as goal

pub returns : goal.returns
returns g c = runs_are_logs g.S.Store.content g.S.Store.control g.M.MetaLog.content g.M.MetaLog.control
