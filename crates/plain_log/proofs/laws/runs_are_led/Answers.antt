use Rattle.std.proofs.Common.{◌-◌}
use Rattle.plain_log.specs.Fresh.{fresh}
use Rattle.plain_log.proofs.FreshLaw.{fresh_safe}
use Rattle.plain_log.proofs.Replays.{replay_safe}
use Rattle.plain_log.proofs.Grows.{replay_led}
use Rattle.plain_log.proofs.laws.runs_are_led.Goals as goal

pub returns : goal.returns
returns c = λ config lists journal run. record {
  paths = run.last.paths;
  consecutive = λ e log is. ((replay_safe lists (fresh config) journal run.last run.replays (fresh_safe (config.brokers - 1))).paths e log is).log_safe.consecutive;
  runs = replay_led lists (fresh config) journal run.last run.replays (fresh_safe (config.brokers - 1));
}
