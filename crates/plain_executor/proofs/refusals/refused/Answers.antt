use Rattle.plain_log.proofs.Within.{broker_within}
use Rattle.plain_executor.proofs.refusals.refused.Goals as goal

pub facts-requires-clause-within : goal.facts-requires-clause-within
facts-requires-clause-within c = broker_within c.args.p.now c.args.b c.args.x.now c.requires.safe c.requires.broker
