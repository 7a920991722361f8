use Rattle.plain_executor.proofs.followers.join.Goals as goal

pub returns-in-None : goal.returns-in-None
returns-in-None c = λ s command. rw c.in-None.is (c.join_first.ensures s command)

pub returns-in-Some : goal.returns-in-Some
returns-in-Some c = λ s command. rw c.in-Some.is (c.join_later.ensures s command)
