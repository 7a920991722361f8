use Rattle.trace_text.proofs.OneTrace.{one-text}
use Rattle.trace_text.proofs.laws.one_text_one_trace.Goals as goal

pub returns : goal.returns
returns c = one-text
