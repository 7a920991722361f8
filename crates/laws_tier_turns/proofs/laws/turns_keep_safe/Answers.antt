use Rattle.laws_tier_turns.proofs.Chains.{turned_safe}
use Rattle.laws_tier_turns.proofs.laws.turns_keep_safe.Goals as goal

pub returns : goal.returns
returns c = turned_safe
