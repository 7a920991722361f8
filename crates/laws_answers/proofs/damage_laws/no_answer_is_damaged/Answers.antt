use Rattle.laws_answers.proofs.RowsWithoutDamage.{none_damaged}
use Rattle.laws_answers.proofs.damage_laws.no_answer_is_damaged.Goals as goal

pub returns : goal.returns
returns g c = none_damaged g.D.Disk g.S.Store g.M.MetaLog
