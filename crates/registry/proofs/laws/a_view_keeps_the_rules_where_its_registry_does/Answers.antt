use Rattle.registry.proofs.Keeping.{rules_same}
use Rattle.registry.proofs.laws.a_view_keeps_the_rules_where_its_registry_does.Goals as goal

pub returns : goal.returns
returns c = rules_same
