use Rattle.plain_log.proofs.Replays.{replay_safe}
use Rattle.plain_log.proofs.laws.replays_keep_safe.Goals as goal

pub returns : goal.returns
returns c = replay_safe
