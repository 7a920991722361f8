use Rattle.std.proofs.Common.{◌-◌}
use Rattle.plain_log.proofs.FreshLaw.{fresh_safe}
use Rattle.plain_log.proofs.laws.fresh_is_safe.Goals as goal

pub returns : goal.returns
returns c = λ config. fresh_safe (config.brokers - 1)
