use Rattle.std.proofs.Common.{◌≡◌, take}
use Rattle.meta_log.proofs.notes.copied_all.Given as goal

-- copied are the events so far
abbrev pub invariant-loop-note : goal.invariant-loop-note
invariant-loop-note l = l.copies ≡ take l.note-index l.notes
