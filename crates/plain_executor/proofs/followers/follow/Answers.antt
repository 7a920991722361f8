use Rattle.std.proofs.Common.{arith}
use Rattle.std.proofs.lemmas.Grind.{common_steps}
use Rattle.plain_executor.proofs.followers.follow.Goals as goal

pub returns-in-None : goal.returns-in-None
returns-in-None c = λ b s command. rw c.in-None.is (grind (arith, common_steps, c.follow_first.ensures b c.args.limit))

pub returns-in-Some : goal.returns-in-Some
returns-in-Some c = λ b s command. rw c.in-Some.is (grind (arith, common_steps, c.follow_later.ensures b s command))
