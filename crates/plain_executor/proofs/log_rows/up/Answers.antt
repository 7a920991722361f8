use Rattle.plain_executor.proofs.log_rows.up.Goals as goal

pub returns-in-Up : goal.returns-in-Up
returns-in-Up c = λ p b s command. rw c.in-Up.is (c.open.ensures p b s command)
