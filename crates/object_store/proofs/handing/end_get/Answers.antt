use Rattle.object_store.proofs.handing.end_get.Goals as goal

pub returns-clause-control : goal.returns-clause-control
returns-clause-control c = rw c.give.ensures.fate (c.note-outcome.ensures.ran c.args.last_read.now c.hand.new.last_read)
