use Rattle.segment_meta.proofs.OneSpelling.{added_rules, updated_rules}
use Rattle.segment_meta.proofs.reading.decode.Goals as goal

pub returns-in-0-clause-rules : goal.returns-in-0-clause-rules
returns-in-0-clause-rules c = added_rules _ c.in_ok-kind.rest.now c.added.result c.added.ensures

pub returns-in-1-clause-rules : goal.returns-in-1-clause-rules
returns-in-1-clause-rules c = updated_rules _ c.in_ok-kind.rest.now c.updated.result c.updated.ensures
