use Rattle.laws_answers.proofs.SchedulesOfTurns.{schedules_answer}
use Rattle.laws_answers.proofs.turn_laws.schedules_answer_commands.Goals as goal

pub returns : goal.returns
returns g c = schedules_answer g.D.Disk g.S.Store g.M.MetaLog
