use Rattle.segment_file.proofs.Timing.{each_near}
use Rattle.segment_file.proofs.laws.each_batch_has_a_time_entry_near.Goals as goal

pub returns : goal.returns
returns c = each_near
