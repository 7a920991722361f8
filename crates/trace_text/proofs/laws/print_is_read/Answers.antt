use Rattle.trace_text.proofs.OneTrace.{reads-as}
use Rattle.trace_text.proofs.laws.print_is_read.Goals as goal

pub returns : goal.returns
returns c = reads-as
