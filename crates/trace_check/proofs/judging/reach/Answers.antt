use Rattle.std.proofs.Common.{◌≡◌, ◌∙◌, sym, ap, ℕ, length, ◌∷◌, [], ◌++◌, arith}
use Rattle.plain_log.specs.declared.state.State.{State}
use Rattle.plain_log.specs.Fresh.{fresh}
use Rattle.trace_check.specs.Places.{with_one}
use Rattle.trace_check.proofs.Places.{with_end, with_same}
use Rattle.trace_check.proofs.judging.reach.Goals as goal

pub returns-in_ok-push : goal.returns-in_ok-push
returns-in_ok-push c =
    let states = c.args.states.now in
    let d = fresh c.args.config.now in
    let here : c.args.at ≡ length states = c.if-at-len.true ∙ c.len.ensures in
    c.in_ok-push.ensures.ok ∙ ap (λ (x : State). states ++ x ∷ []) c.in_ok-plain.ensures ∙ sym (with_end d states) ∙ ap (λ (k : ℕ). with_one d k states) (sym here)

pub returns-else-at-len : goal.returns-else-at-len
returns-else-at-len c =
    sym (with_same (fresh c.args.config.now) c.args.at c.args.states.now (let other = c.if-at-len.false in let near = c.requires.near in let len = c.len.ensures in grind (arith, other, near, len)))
