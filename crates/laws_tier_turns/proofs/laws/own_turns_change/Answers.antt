use Rattle.laws_tier_turns.proofs.OwnTurns.{own_turns}
use Rattle.laws_tier_turns.proofs.laws.own_turns_change.Goals as goal

pub returns : goal.returns
returns c = own_turns
