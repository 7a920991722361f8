use Rattle.plain_executor.proofs.replicas.ack.Goals as goal

pub returns-in-OkAt : goal.returns-in-OkAt
returns-in-OkAt c = λ s command is. rw c.in-OkAt.is (c.ack_at.ensures s command is)
