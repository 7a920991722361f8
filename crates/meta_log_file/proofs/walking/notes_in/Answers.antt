use Rattle.std.proofs.Common.{◌∙◌, sym, ap, subst, arith, ℕ, List, length, length-append, ◌==◌}
use Rattle.std.proofs.lemmas.Bool.{false≢true}
use Rattle.segment_meta.specs.declared.note.Note.{Note}
use Rattle.meta_log_file.specs.Reading.{ReadsFirstNote}
use Rattle.meta_log_file.specs.Notes.{framed}
use Rattle.meta_log_file.proofs.Frames.{framed_len}
use Rattle.meta_log_file.proofs.Walks.{Found, found_more, found_no}
use Rattle.meta_log_file.proofs.walking.notes_in.Goals as goal

pub returns-in_default : goal.returns-in_default
returns-in_default c = λ all told is.
    let found = c.loop-rest.invariant in
    let none = subst (ReadsFirstNote c.loop-rest.rest.now) c.in_default.is c.in_ok-note.ensures in
    let no = found_no c.loop-rest.notes all c.loop-rest.rest.now found.told told none (sym is ∙ found.bytes_are) in
    false≢true (sym c.loop-rest-test.true ∙ c.is_empty.ensures ∙ ap (λ (l : List ℕ). length l == 0) no.1)

pub loop-rest-smaller : goal.loop-rest-smaller
loop-rest-smaller c =
    let some = subst (ReadsFirstNote c.loop-rest.rest.now) c.in-Some.is c.in_ok-note.ensures in
    let long = ap length some.1 in
    let parts = length-append (framed c.in-Some.note) c.in-Some.behind.now in
    let size = framed_len c.in-Some.note in
    omega (arith, long, parts, size)

pub loop-rest-preserved : goal.loop-rest-preserved
loop-rest-preserved c =
    let some = subst (ReadsFirstNote c.loop-rest.rest.now) c.in-Some.is c.in_ok-note.ensures in
    subst (λ (notes : List Note). Found c.args.bytes.now notes c.in-Some.behind.now) (sym c.in_ok-push.ensures.ok)
    (found_more c.args.bytes.now c.loop-rest.notes c.loop-rest.rest.now c.in-Some.note c.in-Some.behind.now c.loop-rest.invariant some.0 some.1)
