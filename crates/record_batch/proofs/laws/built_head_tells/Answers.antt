use Rattle.record_batch.proofs.BuildLaws.{built_tells}
use Rattle.record_batch.proofs.laws.built_head_tells.Goals as goal

pub returns : goal.returns
returns c = built_tells
