use Rattle.laws_tier_fetch.proofs.Spanning.{spans_hold}
use Rattle.laws_tier_fetch.proofs.laws.spans_hold_runs.Goals as goal

pub returns : goal.returns
returns c = spans_hold
