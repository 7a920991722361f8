use Rattle.laws_tier_turns.proofs.FreshLaw.{fresh_tier}
use Rattle.laws_tier_turns.proofs.laws.fresh_tier.Goals as goal

pub returns : goal.returns
returns c = fresh_tier
