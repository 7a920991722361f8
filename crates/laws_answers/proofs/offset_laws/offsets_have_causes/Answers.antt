use Rattle.laws_answers.proofs.OffsetsHaveCauses.{have_causes}
use Rattle.laws_answers.proofs.offset_laws.offsets_have_causes.Goals as goal

pub returns : goal.returns
returns g c = have_causes g.D.Disk g.S.Store g.M.MetaLog
