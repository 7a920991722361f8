use Rattle.record_batch.proofs.Passing.{is_batch_of}
use Rattle.record_batch.proofs.laws.checked_is_batch.Goals as goal

pub returns : goal.returns
returns c = is_batch_of
