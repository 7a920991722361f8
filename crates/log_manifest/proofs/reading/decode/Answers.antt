use Rattle.log_manifest.proofs.OneSpelling.{manifest_rules}
use Rattle.log_manifest.proofs.reading.decode.Goals as goal

pub returns-clause-rules : goal.returns-clause-rules
returns-clause-rules c = manifest_rules c.args.bytes.now c.manifest.result c.manifest.ensures
