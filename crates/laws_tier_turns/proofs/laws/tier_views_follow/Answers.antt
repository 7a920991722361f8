use Rattle.laws_tier_turns.proofs.Follow.{tier_views_follow}
use Rattle.laws_tier_turns.proofs.laws.tier_views_follow.Goals as goal

pub returns : goal.returns
returns c = tier_views_follow
