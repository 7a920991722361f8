use Rattle.std.proofs.Common.{◌≡◌, ◌+◌, ◌<◌, ◌≤◌, ◌∙◌, ap, sym, arith, ℕ, length}
use Rattle.segment_file.specs.Growing.{end_after, size_after}
use Rattle.segment_file.specs.Reach.{fitting}
use Rattle.segment_file.proofs.Fitting.{front_length, reach_stops, reach_on, front_of}
use Rattle.segment_file.proofs.reaching.run_reach.Goals.{else-fit-behind-via-then-fit-behind+else-end_of-bound, else-fit-behind-via-else-fit-behind}
use Rattle.segment_file.proofs.reaching.run_reach.Goals as goal

pub end_of-requires : goal.end_of-requires
end_of-requires c =
    let front = front_of c.args.end c.args.at c.count_fitting-fit.result c.args.behind.now c.requires.laid in
    let is = ap (end_after c.args.end) c.split_at.ensures.front in
    omega (arith, front.end, is, c.requires.near)

pub overflow_add-result : goal.overflow_add-result
overflow_add-result c =
    let front = front_of c.args.end c.args.at c.count_fitting-fit.result c.args.behind.now c.requires.laid in
    let is = c.size_from-to.ensures ∙ ap (size_after c.args.at) c.split_at.ensures.front in
    omega (arith, front.size, is, c.requires.small)

pub returns-then-end_of-bound-clause-reach : goal.returns-then-end_of-bound-clause-reach
returns-then-end_of-bound-clause-reach c =
    let bs = c.args.behind.now in
    let run = fitting c.args.bound c.args.top bs in
    let front : c.split_at.result.0.now ≡ run = c.split_at.ensures.front ∙ c.count_fitting-fit.ensures.front in
    let len : length run ≡ c.count_fitting-fit.result = ap length (sym c.count_fitting-fit.ensures.front) ∙ front_length c.count_fitting-fit.result bs c.count_fitting-fit.ensures.within in
    let end = c.end_of.ensures ∙ ap (end_after c.args.end) front in
    let size = c.size_from-to.ensures ∙ ap (size_after c.args.at) front in
    let on = reach_on c.args.bound c.args.top c.args.end c.args.at bs (omega (arith, len, c.if-fit-behind.true)) (omega (arith, end, c.if-end_of-bound.true)) in
    ap (λ (n : ℕ). n + 61) size ∙ sym on

pub returns-then-end_of-bound-clause-from : goal.returns-then-end_of-bound-clause-from
returns-then-end_of-bound-clause-from c =
    let front = front_of c.args.end c.args.at c.count_fitting-fit.result c.args.behind.now c.requires.laid in
    let is = c.size_from-to.ensures ∙ ap (size_after c.args.at) c.split_at.ensures.front in
    omega (arith, front.up, is)

pub returns-else-fit-behind-clause-reach : goal.returns-else-fit-behind-clause-reach
returns-else-fit-behind-clause-reach c =
    let bs = c.args.behind.now in
    let run = fitting c.args.bound c.args.top bs in
    let front : c.split_at.result.0.now ≡ run = c.split_at.ensures.front ∙ c.count_fitting-fit.ensures.front in
    let len : length run ≡ c.count_fitting-fit.result = ap length (sym c.count_fitting-fit.ensures.front) ∙ front_length c.count_fitting-fit.result bs c.count_fitting-fit.ensures.within in
    let size = c.size_from-to.ensures ∙ ap (size_after c.args.at) front in
    let stop : length run < length bs → c.args.bound ≤ end_after c.args.end run = λ l. elim c.else-fit-behind.branch [
      | else-fit-behind-via-then-fit-behind+else-end_of-bound w ↦ (let end = w.end_of.ensures ∙ ap (end_after c.args.end) front in omega (arith, end, w.if-end_of-bound.false))
      | else-fit-behind-via-else-fit-behind w ↦ absurd (omega (arith, l, len, w.if-fit-behind.false))
    ] in
    size ∙ sym (reach_stops c.args.bound c.args.top c.args.end c.args.at bs stop)

pub returns-else-fit-behind-clause-from : goal.returns-else-fit-behind-clause-from
returns-else-fit-behind-clause-from c =
    let front = front_of c.args.end c.args.at c.count_fitting-fit.result c.args.behind.now c.requires.laid in
    let is = c.size_from-to.ensures ∙ ap (size_after c.args.at) c.split_at.ensures.front in
    omega (arith, front.up, is)
