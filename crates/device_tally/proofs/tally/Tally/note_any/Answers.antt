use Rattle.device_tally.proofs.tally.Tally.note_any.Goals as goal

pub returns-in-Ok-clause-ran : goal.returns-in-Ok-clause-ran
returns-in-Ok-clause-ran g c = λ before after. rw c.give.ensures.fate (c.note.ensures.ran before after)
