use Rattle.segment_file.proofs.Dense.{each_near}
use Rattle.segment_file.proofs.laws.each_batch_has_an_entry_near.Goals as goal

pub returns : goal.returns
returns c = each_near
