use Rattle.std.proofs.Common.{◌≡◌, ◌∙◌, ◌≤◌, sym, ap, subst, ℕ, suc, List, ◌∷◌, drop, get_or, arith}
use Rattle.std.proofs.Math.Seq.{drop-cons}
use Rattle.epoch_line.specs.Line.{IsLine}
use Rattle.local_log.specs.Stored.{end_of}
use Rattle.local_log.specs.Reading.{piece_end}
use Rattle.local_log.proofs.PieceEnds.{line_drop, ends_there}
use Rattle.local_log.proofs.piece.first_edge.Goals as goal

pub returns-then-start-end : goal.returns-then-start-end
returns-then-start-end c =
    let line = c.args.line.now in
    let segment = c.args.segment.now in
    let i = c.loop-start.start-index in
    let entry : ℕ × ℕ = get_or line i (0, 0) in
    let parts : drop i line ≡ entry ∷ drop (suc i) line = drop-cons line i (0, 0) c.loop-start-test.true in
    let is : IsLine (entry ∷ drop (suc i) line) = subst IsLine parts (line_drop i line c.requires.line) in
    let past : end_of segment ≤ entry.1 = omega (arith, c.end-end.ensures, c.if-start-end.true) in
    c.end-end.ensures
    ∙ sym (ends_there segment c.args.offset entry (drop (suc i) line) c.requires.laid is past)
    ∙ ap (λ (l : List (ℕ × ℕ)). piece_end l segment c.args.offset) (sym parts)
    ∙ sym c.loop-start.invariant
