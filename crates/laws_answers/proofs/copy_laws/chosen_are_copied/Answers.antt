use Rattle.laws_answers.proofs.Copied.{chosen_copied}
use Rattle.laws_answers.proofs.copy_laws.chosen_are_copied.Goals as goal

pub returns : goal.returns
returns g c = chosen_copied g.D.Disk g.S.Store g.M.MetaLog
