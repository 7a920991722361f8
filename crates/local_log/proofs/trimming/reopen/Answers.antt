use Rattle.std.proofs.Common.{◌≡◌, ◌<◌, ◌+◌, ◌∙◌, ◌++◌, ◌∷◌, List, [], length, take, ℕ, sym, ap, arith}
use Rattle.segment_file.specs.Growing.{Grown}
use Rattle.local_log.specs.Cutting.{closed_by, open_by}
use Rattle.local_log.proofs.Parting.{all_closed, some_behind, snoc_same}
use Rattle.local_log.proofs.trimming.reopen.Goals as goal

pub returns-in-Some-clause-closed : goal.returns-in-Some-clause-closed
returns-in-Some-clause-closed c =
    let closed = c.args.closed.now.items in
    let active = c.args.active.now in
    let k : c.count_ended-kept.result ≡ length (closed_by c.args.end closed) = c.count_ended-kept.ensures ∙ ap (λ (l : List Grown). length (closed_by c.args.end l)) c.deref.ensures.value in
    let lt : length (closed_by c.args.end closed) < length closed = omega (arith, k, c.if-kept-len.true) in
    let all : c.pop.new.self.items ++ c.in-Some.last ∷ [] ≡ closed_by c.args.end closed ++ open_by c.args.end closed active ∷ [] =
    sym c.in-Some.ensures.items ∙ c.truncate.ensures.items ∙ ap (λ (i : ℕ). take (i + 1) closed) k ∙ (some_behind c.args.end closed active lt).0 in
    (snoc_same c.pop.new.self.items (closed_by c.args.end closed) c.in-Some.last (open_by c.args.end closed active) all).0

pub returns-in-Some-clause-active : goal.returns-in-Some-clause-active
returns-in-Some-clause-active c =
    let closed = c.args.closed.now.items in
    let active = c.args.active.now in
    let k : c.count_ended-kept.result ≡ length (closed_by c.args.end closed) = c.count_ended-kept.ensures ∙ ap (λ (l : List Grown). length (closed_by c.args.end l)) c.deref.ensures.value in
    let lt : length (closed_by c.args.end closed) < length closed = omega (arith, k, c.if-kept-len.true) in
    let all : c.pop.new.self.items ++ c.in-Some.last ∷ [] ≡ closed_by c.args.end closed ++ open_by c.args.end closed active ∷ [] =
    sym c.in-Some.ensures.items ∙ c.truncate.ensures.items ∙ ap (λ (i : ℕ). take (i + 1) closed) k ∙ (some_behind c.args.end closed active lt).0 in
    (snoc_same c.pop.new.self.items (closed_by c.args.end closed) c.in-Some.last (open_by c.args.end closed active) all).1

pub returns-else-kept-len-clause-closed : goal.returns-else-kept-len-clause-closed
returns-else-kept-len-clause-closed c =
    let closed = c.args.closed.now.items in
    let k : c.count_ended-kept.result ≡ length (closed_by c.args.end closed) = c.count_ended-kept.ensures ∙ ap (λ (l : List Grown). length (closed_by c.args.end l)) c.deref.ensures.value in
    sym (all_closed c.args.end closed c.args.active.now (omega (arith, k, c.if-kept-len.false))).0

pub returns-else-kept-len-clause-active : goal.returns-else-kept-len-clause-active
returns-else-kept-len-clause-active c =
    let closed = c.args.closed.now.items in
    let k : c.count_ended-kept.result ≡ length (closed_by c.args.end closed) = c.count_ended-kept.ensures ∙ ap (λ (l : List Grown). length (closed_by c.args.end l)) c.deref.ensures.value in
    sym (all_closed c.args.end closed c.args.active.now (omega (arith, k, c.if-kept-len.false))).1
