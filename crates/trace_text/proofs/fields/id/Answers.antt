use Rattle.trace_text.proofs.Spelled.{id-reads}
use Rattle.trace_text.proofs.fields.id.Goals as goal

pub returns : goal.returns
returns c = id-reads c.args.word.now c.from_text.result c.from_text.ensures
