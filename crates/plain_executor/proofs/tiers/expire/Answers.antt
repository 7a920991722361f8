use Rattle.plain_executor.proofs.tiers.expire.Goals as goal

pub returns-in-Some : goal.returns-in-Some
returns-in-Some c = λ b x s command. rw c.in-Some.is (c.expire_on.ensures b x s command)
