use Rattle.tier_safe.proofs.Answers.{answers_keep}
use Rattle.tier_safe.proofs.laws.answers_keep_safe.Goals as goal

pub returns : goal.returns
returns c = answers_keep
