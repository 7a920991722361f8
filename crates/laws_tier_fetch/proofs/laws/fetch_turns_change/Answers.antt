use Rattle.laws_tier_fetch.proofs.Turning.{fetch_turns}
use Rattle.laws_tier_fetch.proofs.laws.fetch_turns_change.Goals as goal

pub returns : goal.returns
returns g c = fetch_turns g.S.Store.content g.S.Store.control g.M.MetaLog.content g.M.MetaLog.control
