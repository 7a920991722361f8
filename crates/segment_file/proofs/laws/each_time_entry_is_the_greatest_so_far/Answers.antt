use Rattle.segment_file.proofs.Timing.{each_entry}
use Rattle.segment_file.proofs.laws.each_time_entry_is_the_greatest_so_far.Goals as goal

pub returns : goal.returns
returns c = each_entry
