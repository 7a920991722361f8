use Rattle.laws_answers.proofs.RunsWithoutDamage.{runs_meet_none}
use Rattle.laws_answers.proofs.damage_laws.runs_meet_no_damage.Goals as goal

pub returns : goal.returns
returns g c = runs_meet_none g.D.Disk g.S.Store g.M.MetaLog
