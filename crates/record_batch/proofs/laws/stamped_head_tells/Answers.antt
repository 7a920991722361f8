use Rattle.record_batch.proofs.BuildLaws.{stamped_tells}
use Rattle.record_batch.proofs.laws.stamped_head_tells.Goals as goal

pub returns : goal.returns
returns c = stamped_tells
