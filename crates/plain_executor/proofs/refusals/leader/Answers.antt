use Rattle.plain_log.proofs.Within.{broker_within}
use Rattle.plain_executor.proofs.refusals.leader.Goals as goal

pub facts-requires-clause-within : goal.facts-requires-clause-within
facts-requires-clause-within c = broker_within c.args.p.now c.args.p.now.registry.leader.0 c.get.result.now c.requires.safe c.get.ensures
