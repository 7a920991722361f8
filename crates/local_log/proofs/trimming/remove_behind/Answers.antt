use Rattle.std.proofs.Common.{◌<◌, ◌+◌, ◌∙◌, ◌++◌, ◌∷◌, List, [], length, drop, ℕ, sym, ap, subst, arith}
use Rattle.tier_base.specs.Device.{failing, Went}
use Rattle.segment_file.specs.Growing.{Grown}
use Rattle.local_log.specs.Cutting.{closed_by, names_of, RemovesAll}
use Rattle.local_log.proofs.Parting.{all_closed, some_behind}
use Rattle.local_log.proofs.Trimmed.{removes_none}
use Rattle.local_log.proofs.trimming.remove_behind.Goals as goal

pub returns-then-kept-closed-clause-content : goal.returns-then-kept-closed-clause-content
returns-then-kept-closed-clause-content g c =
    let d = g.D.Disk.content c.args.disk.now in
    let all = all_closed c.args.end c.args.closed.now c.args.active.now (omega (arith, c.count_ended-kept.ensures, c.if-kept-closed.true)) in
    subst (λ (l : List Grown). RemovesAll (names_of l) Went d d) (sym all.2) (removes_none d)

pub returns-clause-content : goal.returns-clause-content
returns-clause-content g c =
    let closed = c.args.closed.now in
    let active = c.args.active.now in
    let d = g.D.Disk.content c.args.disk.now in
    let d' = g.D.Disk.content c.remove_segments.new.disk in
    let k = c.count_ended-kept.ensures in
    let lt : length (closed_by c.args.end closed) < length closed = omega (arith, k, c.if-kept-closed.false) in
    let is = c.split_at.ensures.back ∙ ap (λ (i : ℕ). drop (i + 1) closed) k in
    let names = ap (λ (l : List Grown). l ++ active ∷ []) is ∙ sym (some_behind c.args.end closed active lt).1 in
    subst (λ (l : List Grown). RemovesAll (names_of l) (failing c.remove_segments.result) d d') names c.remove_segments.ensures.content
