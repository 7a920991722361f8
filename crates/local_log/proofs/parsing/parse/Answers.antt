use Rattle.std.proofs.Common.{◌≡◌, ◌∙◌, ℕ, List, length, take, sym, ap, subst, arith, refl}
use Rattle.std.proofs.lemmas.List.{length-take, take_min}
use Rattle.local_log.specs.Stored.{size_of, end_of}
use Rattle.local_log.specs.Parsing.{StandsNext, NoBatchNext, HasNoBatchAt, ParseFails}
use Rattle.local_log.proofs.Parsed.{parsing_inside, parsing_above, parsing_low, parsing_push, parsing_more, parsing_grows, parsed_all, parsed_not}
use Rattle.local_log.proofs.parsing.parse.Goals as goal

pub next_head-requires-clause-inside : goal.next_head-requires-clause-inside
next_head-requires-clause-inside c =
    let front_is : c.split_at.result.0.now ≡ take c.args.extent.len c.args.bytes.now = c.split_at.ensures.front ∙ ap (λ (n : ℕ). take n c.args.bytes.now) c.min.ensures ∙ take_min c.args.extent.len c.args.bytes.now in
    let inside = parsing_inside c.args.line.now c.args.interval c.args.extent.base (take c.args.extent.len c.args.bytes.now) c.loop-front.segment c.loop-front.invariant in
    let size = ap length front_is in
    omega (arith, inside, size, c.size-at.ensures)

pub next_head-requires-clause-from_base : goal.next_head-requires-clause-from_base
next_head-requires-clause-from_base c =
    let above = parsing_above c.args.line.now c.args.interval c.args.extent.base (take c.args.extent.len c.args.bytes.now) c.loop-front.segment c.loop-front.invariant in
    omega (arith, above, c.end.ensures)

pub next_head-requires-clause-end_fits : goal.next_head-requires-clause-end_fits
next_head-requires-clause-end_fits c =
    let low = parsing_low c.args.line.now c.args.interval c.args.extent.base (take c.args.extent.len c.args.bytes.now) c.loop-front.segment c.loop-front.invariant c.requires.base in
    omega (arith, low, c.end.ensures)

pub returns-in_default-clause-err : goal.returns-in_default-clause-err
returns-in_default-clause-err c =
    let bytes = c.args.bytes.now in
    let front_is : c.split_at.result.0.now ≡ take c.args.extent.len bytes = c.split_at.ensures.front ∙ ap (λ (n : ℕ). take n bytes) c.min.ensures ∙ take_min c.args.extent.len bytes in
    let none = c.next_head.ensures.none c.in_default.is in
    let none' = subst (λ (l : List ℕ). NoBatchNext c.args.line.now c.args.extent.base l (size_of c.loop-front.segment) (end_of c.loop-front.segment)) front_is
    (subst (λ (n : ℕ). NoBatchNext c.args.line.now c.args.extent.base c.split_at.result.0.now n (end_of c.loop-front.segment)) c.size-at.ensures
    (subst (λ (n : ℕ). NoBatchNext c.args.line.now c.args.extent.base c.split_at.result.0.now c.size-at.result n) c.end.ensures none)) in
    let miss = parsed_not c.args.line.now c.args.interval c.args.extent bytes c.loop-front.segment c.loop-front.invariant (omega (arith, c.loop-front-test.true, c.size.ensures)) none' in
    subst (ParseFails c.args.line.now c.args.extent bytes) (sym c.damaged.ensures)
    (refl, subst (HasNoBatchAt c.args.line.now c.args.extent bytes) (sym c.size-at.ensures) miss)

pub loop-front-smaller : goal.loop-front-smaller
loop-front-smaller c =
    let bytes = c.args.bytes.now in
    let front_is : c.split_at.result.0.now ≡ take c.args.extent.len bytes = c.split_at.ensures.front ∙ ap (λ (n : ℕ). take n bytes) c.min.ensures ∙ take_min c.args.extent.len bytes in
    let next = subst (λ (l : List ℕ). StandsNext c.args.line.now c.args.extent.base l (size_of c.loop-front.segment) (end_of c.loop-front.segment) c.in-Some.head) front_is
    (subst (λ (n : ℕ). StandsNext c.args.line.now c.args.extent.base c.split_at.result.0.now n (end_of c.loop-front.segment) c.in-Some.head) c.size-at.ensures
    (subst (λ (n : ℕ). StandsNext c.args.line.now c.args.extent.base c.split_at.result.0.now c.size-at.result n c.in-Some.head) c.end.ensures c.in-Some.ensures.some)) in
    let grows = parsing_grows c.args.line.now c.args.interval c.args.extent.base (take c.args.extent.len bytes) c.loop-front.segment c.loop-front.invariant c.in-Some.head next c.push.new.self c.in_ok-push.ensures.ok in
    omega (arith, grows, c.loop-front-test.true, c.size.ensures)

pub loop-front-preserved : goal.loop-front-preserved
loop-front-preserved c =
    let bytes = c.args.bytes.now in
    let front_is : c.split_at.result.0.now ≡ take c.args.extent.len bytes = c.split_at.ensures.front ∙ ap (λ (n : ℕ). take n bytes) c.min.ensures ∙ take_min c.args.extent.len bytes in
    let next = subst (λ (l : List ℕ). StandsNext c.args.line.now c.args.extent.base l (size_of c.loop-front.segment) (end_of c.loop-front.segment) c.in-Some.head) front_is
    (subst (λ (n : ℕ). StandsNext c.args.line.now c.args.extent.base c.split_at.result.0.now n (end_of c.loop-front.segment) c.in-Some.head) c.size-at.ensures
    (subst (λ (n : ℕ). StandsNext c.args.line.now c.args.extent.base c.split_at.result.0.now c.size-at.result n c.in-Some.head) c.end.ensures c.in-Some.ensures.some)) in
    parsing_more c.args.line.now c.args.interval c.args.extent.base (take c.args.extent.len bytes) c.loop-front.segment c.loop-front.invariant c.in-Some.head next c.push.new.self c.in_ok-push.ensures.ok

pub returns-clause-ok : goal.returns-clause-ok
returns-clause-ok c =
    parsed_all c.args.line.now c.args.interval c.args.extent c.args.bytes.now c.loop-front.segment c.loop-front.invariant (omega (arith, c.loop-front-test.false, c.size.ensures))

pub push-requires : goal.push-requires
push-requires c =
    let bytes = c.args.bytes.now in
    let front_is : c.split_at.result.0.now ≡ take c.args.extent.len bytes = c.split_at.ensures.front ∙ ap (λ (n : ℕ). take n bytes) c.min.ensures ∙ take_min c.args.extent.len bytes in
    let next = subst (λ (l : List ℕ). StandsNext c.args.line.now c.args.extent.base l (size_of c.loop-front.segment) (end_of c.loop-front.segment) c.in-Some.head) front_is
    (subst (λ (n : ℕ). StandsNext c.args.line.now c.args.extent.base c.split_at.result.0.now n (end_of c.loop-front.segment) c.in-Some.head) c.size-at.ensures
    (subst (λ (n : ℕ). StandsNext c.args.line.now c.args.extent.base c.split_at.result.0.now c.size-at.result n c.in-Some.head) c.end.ensures c.in-Some.ensures.some)) in
    let few = length-take c.args.extent.len bytes in
    parsing_push c.args.line.now c.args.interval c.args.extent.base (take c.args.extent.len bytes) c.loop-front.segment c.loop-front.invariant c.in-Some.head next (omega (arith, few, c.requires.small))
