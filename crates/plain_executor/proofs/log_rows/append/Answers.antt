use Rattle.plain_executor.proofs.log_rows.append.Goals as goal

pub returns-in-OkSpan : goal.returns-in-OkSpan
returns-in-OkSpan c = λ p b s command delta. rw c.in-OkSpan.is (c.append_span.ensures p b s command delta)
