use Rattle.record_batch.proofs.StampChecked.{stamped_checked}
use Rattle.record_batch.proofs.laws.stamped_is_checked.Goals as goal

pub returns : goal.returns
returns c = stamped_checked
