use Rattle.std.proofs.Common.{◌≡◌, ◌∷◌, [], ◌∙◌, ◌+◌, ap, sym, drop, arith}
use Rattle.std.proofs.lemmas.List.{drop_more, drop_all}
use Rattle.remote_view.proofs.Overlay.{gap_ends, tread_ends, turn, at_last}
use Rattle.remote_view.proofs.Treads.{ends_weaker}
use Rattle.remote_view.proofs.laying.lay.Goals as goal

pub put-requires-clause-ends : goal.put-requires-clause-ends
put-requires-clause-ends c =
    let s = c.args.stair.now in
    let i = c.loop-tread.tread-index in
    let here : drop i s ≡ c.tread-item.result ∷ drop (i + 1) s = drop_more s i _ (omega (arith, c.loop-tread-test.true)) ∙ ap (λ x. x ∷ drop (i + 1) s) (sym c.tread-item.is) in
    gap_ends _ _ _ s _ _ c.tread-item.result c.loop-tread.at c.min-from.result (rw here at c.loop-tread.invariant) (omega (arith, c.max.ensures, c.min-from.ensures))

pub put_split-requires-clause-ends : goal.put_split-requires-clause-ends
put_split-requires-clause-ends c =
    let s = c.args.stair.now in
    let i = c.loop-tread.tread-index in
    let here : drop i s ≡ c.tread-item.result ∷ drop (i + 1) s = drop_more s i _ (omega (arith, c.loop-tread-test.true)) ∙ ap (λ x. x ∷ drop (i + 1) s) (sym c.tread-item.is) in
    tread_ends _ _ _ s _ _ _ c.tread-item.result c.loop-tread.at c.min-from.result c.min-to.result (rw here at c.loop-tread.invariant) (omega (arith, c.min-to.ensures)) c.in_ok-put.ensures

pub loop-tread-preserved : goal.loop-tread-preserved
loop-tread-preserved c =
    let s = c.args.stair.now in
    let i = c.loop-tread.tread-index in
    let here : drop i s ≡ c.tread-item.result ∷ drop (i + 1) s = drop_more s i _ (omega (arith, c.loop-tread-test.true)) ∙ ap (λ x. x ∷ drop (i + 1) s) (sym c.tread-item.is) in
    turn c.args.known.now c.args.entry.now c.args.span s (drop (i + 1) s) _ _ _ c.tread-item.result c.loop-tread.at c.min-from.result c.min-to.result c.winner.result (rw here at c.loop-tread.invariant)
    (omega (arith, c.max.ensures, c.min-from.ensures)) (omega (arith, c.max-in-loop-tread.ensures, c.min-to.ensures)) c.winner.ensures c.in_ok-put.ensures c.in_ok-put_split.ensures

pub put-requires-2-clause-ends : goal.put-requires-2-clause-ends
put-requires-2-clause-ends c = ends_weaker c.loop-tread.laid c.loop-tread.at c.max-2.result c.loop-tread.invariant.ends (omega (arith, c.max-2.ensures))

pub returns : goal.returns
returns c =
    let s = c.args.stair.now in
    let none : drop c.loop-tread.tread-index s ≡ [] = drop_all c.loop-tread.tread-index s (omega (arith, c.loop-tread-test.false)) in
    at_last c.args.known.now c.args.entry.now c.args.span s c.loop-tread.laid c.put-2.new.stair c.loop-tread.at c.max-2.result (rw none at c.loop-tread.invariant) c.max-2.ensures c.in_ok-put-2.ensures
