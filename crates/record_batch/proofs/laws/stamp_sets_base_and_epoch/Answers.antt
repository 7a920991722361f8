use Rattle.record_batch.proofs.StampLaws.{sets_base_and_epoch}
use Rattle.record_batch.proofs.laws.stamp_sets_base_and_epoch.Goals as goal

pub returns : goal.returns
returns c = sets_base_and_epoch
