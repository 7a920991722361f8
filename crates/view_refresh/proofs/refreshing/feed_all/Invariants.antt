use Rattle.view_refresh.proofs.Feeding.{IsFed}
use Rattle.view_refresh.proofs.refreshing.feed_all.Given as goal

abbrev pub invariant-loop-note : goal.invariant-loop-note
invariant-loop-note l = IsFed l.fn.view l.fn.notes l.view l.note-iterator.rest.items
