use Rattle.std.proofs.Common.{◌-◌}
use Rattle.plain_log.specs.Fresh.{fresh}
use Rattle.plain_log.proofs.FreshLaw.{fresh_safe}
use Rattle.plain_log.proofs.Replays.{replay_safe}
use Rattle.plain_log.proofs.Grows.{replay_runs}
use Rattle.plain_log.proofs.laws.runs_are_committed.Goals as goal

pub returns : goal.returns
returns c = λ config lists journal run clean. record {
  committed = run.last.committed;
  consecutive = (replay_safe lists (fresh config) journal run.last run.replays (fresh_safe (config.brokers - 1))).marks.consecutive;
  runs = replay_runs lists (fresh config) journal run.last run.replays (fresh_safe (config.brokers - 1)) clean;
}
