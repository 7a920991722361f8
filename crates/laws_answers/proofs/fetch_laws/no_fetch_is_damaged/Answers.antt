use Rattle.laws_answers.proofs.DamageOfFetches.{none_damaged}
use Rattle.laws_answers.proofs.fetch_laws.no_fetch_is_damaged.Goals as goal

pub returns : goal.returns
returns g c = none_damaged g.D.Disk g.S.Store g.M.MetaLog
