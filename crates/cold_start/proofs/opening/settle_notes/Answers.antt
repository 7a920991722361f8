use Rattle.std.proofs.Common.{◌≡◌, ◌∙◌, sym, ap, subst, refl, List, [], length, arith, length-drop}
use Rattle.std.specs.Prelude.{IsTrue}
use Rattle.segment_meta.specs.declared.note.Note.{Note}
use Rattle.cold_start.proofs.opening.settle_notes.Goals as goal

pub returns-clause-few : goal.returns-clause-few
returns-clause-few g c = λ told.
    let none : c.in_ok-more.more ≡ [] = c.is_empty.ensures.0 (subst IsTrue (sym c.if-not-is_empty.false) refl) in
    let notes = c.in_ok-more.ensures.notes told in
    let gone = ap (λ (l : List Note). length l) (sym notes ∙ none) in
    let kept = ap (λ (l : List Note). length l) c.in_ok-more.ensures.content.notes in
    omega (arith, simp length-drop at gone, kept)
