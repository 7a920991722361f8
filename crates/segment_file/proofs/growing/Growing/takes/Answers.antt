use Rattle.std.proofs.Common.{rules}
use Rattle.segment_file.proofs.growing.Growing.takes.Goals as goal

pub returns : goal.returns
returns c = search rules
