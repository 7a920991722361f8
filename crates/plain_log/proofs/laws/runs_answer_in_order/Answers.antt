use Rattle.std.proofs.Common.{◌-◌}
use Rattle.plain_log.specs.Fresh.{fresh}
use Rattle.plain_log.proofs.FreshLaw.{fresh_safe}
use Rattle.plain_log.proofs.Replays.{replay_counts}
use Rattle.plain_log.proofs.laws.runs_answer_in_order.Goals as goal

pub returns : goal.returns
returns c = λ config lists journal run a. (replay_counts lists (fresh config) journal run.last a run.replays (fresh_safe (config.brokers - 1))).order
