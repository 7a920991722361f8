use Rattle.trace_text.proofs.Places.{key-reads}
use Rattle.trace_text.proofs.fields.key.Goals as goal

pub returns : goal.returns
returns c = key-reads c.args.word.now c.from_text.result c.from_text.ensures
