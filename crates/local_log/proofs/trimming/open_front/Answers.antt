use Rattle.std.proofs.Common.{◌≡◌, ◌<◌, ◌∙◌, length, get_or, ap, sym, subst, arith, ℕ}
use Rattle.segment_file.specs.Growing.{Grown}
use Rattle.local_log.specs.Stored.{extent_of}
use Rattle.local_log.specs.Listing.{front_to}
use Rattle.local_log.specs.Cutting.{closed_by}
use Rattle.local_log.proofs.Parting.{open_at, all_closed}
use Rattle.local_log.proofs.trimming.open_front.Goals as goal

pub returns-then-kept-closed : goal.returns-then-kept-closed
returns-then-kept-closed c =
    let closed = c.args.closed.now in
    let x = c.index-closed-kept.result in
    let k = c.count_ended-kept.ensures in
    let lt : length (closed_by c.args.end closed) < length closed = omega (arith, k, c.if-kept-closed.true) in
    let is : x ≡ get_or closed (length (closed_by c.args.end closed)) x = subst (λ (i : ℕ). x ≡ get_or closed i x) k c.index-closed-kept.is in
    c.front_of.ensures ∙ ap (λ (g : Grown). extent_of (front_to c.args.end g)) (sym (open_at c.args.end closed c.args.active.now x lt is))

pub returns-else-kept-closed : goal.returns-else-kept-closed
returns-else-kept-closed c =
    let all = all_closed c.args.end c.args.closed.now c.args.active.now (omega (arith, c.count_ended-kept.ensures, c.if-kept-closed.false)) in
    c.front_of-else-kept-closed.ensures ∙ ap (λ (g : Grown). extent_of (front_to c.args.end g)) (sym all.1)
