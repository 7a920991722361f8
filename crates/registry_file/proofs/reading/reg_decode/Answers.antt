use Rattle.registry_file.proofs.OneSpelling.{view_rules}
use Rattle.registry_file.proofs.reading.reg_decode.Goals as goal

pub returns-clause-rules : goal.returns-clause-rules
returns-clause-rules c = view_rules c.args.bytes.now c.view.result c.view.ensures
