use Rattle.std.proofs.Common.{◌++◌, List, ℕ, length, min, ap, sym, ◌∙◌, arith, append_assoc, length-append, take}
use Rattle.disk_model.specs.Pieces.{joined}
use Rattle.disk_model.proofs.Joined.{joined-take_more, copied, enough}
use Rattle.disk_model.proofs.pieces.copy_front.Goals as goal

pub loop-piece-preserved : goal.loop-piece-preserved
loop-piece-preserved c =
    let most : ℕ = c.args.most in
    let first : List ℕ = c.args.all.now.items in
    let front : List ℕ = joined (take c.loop-piece.piece-index c.args.pieces.now) in
    let bytes : List ℕ = c.piece-item.result.bytes in
    let more = joined-take_more c.args.pieces.now c.loop-piece.piece-index c.piece-item.result c.loop-piece-test.true c.piece-item.is in (
      c.in_ok-extend_from_slice.ensures.items
          ∙ ap (λ (xs : List ℕ). xs ++ take c.min-here.result c.as_slice.result.now) c.loop-piece.invariant.0
          ∙ append_assoc first (take most front) (take c.min-here.result c.as_slice.result.now)
          ∙ ap (λ (xs : List ℕ). first ++ xs) (copied most c.loop-piece.most c.min-here.result front bytes _ c.loop-piece.invariant.1 (c.min-here.ensures ∙ ap (min c.loop-piece.most) c.len.ensures.value) (ap (take c.min-here.result) c.as_slice.ensures))
          ∙ ap (λ (xs : List ℕ). first ++ take most xs) (sym more),
      omega (arith, c.loop-piece.invariant.1, ap length more, length-append front bytes, c.min-here.ensures, c.len.ensures.value),
    )

pub returns-then-most-eq0 : goal.returns-then-most-eq0
returns-then-most-eq0 c =
    c.loop-piece.invariant.0
    ∙ ap (λ (xs : List ℕ). c.args.all.now.items ++ xs) (enough c.args.most c.loop-piece.piece-index c.args.pieces.now (omega (arith, c.loop-piece.invariant.1, c.if-most-eq0.true)))
