use Rattle.plain_log.proofs.Grows.{replay_stays}
use Rattle.plain_log.proofs.laws.committed_stays.Goals as goal

pub returns : goal.returns
returns c = replay_stays
