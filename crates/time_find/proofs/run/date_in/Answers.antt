use Rattle.std.proofs.Common.{rules, ◌≡◌, ◌∙◌, ap, sym, refl, subst, ◌<◌, ◌+◌, min, max, length, drop, Some, to_z, of_z, ◌≤ℤ◌, ◌<ℤ◌, ℤ, arith}
use Rattle.std.specs.Int.{w32, w64, cast_unsigned}
use Rattle.plain_log.specs.RowsOfReads.{first_at}
use Rattle.segment_file.specs.Walk.{size_in}
use Rattle.segment_file.proofs.Standing.{AreBytes}
use Rattle.tier_fetch.specs.Span.{capped}
use Rattle.time_find.specs.Dates.{IsDated}
use Rattle.time_find.specs.declared.run.Dated.TheVariants.{Behind}
use Rattle.time_find.proofs.Dating.{all_left, head_stands, stands_first, dated_at, goes_by, dated_behind}
use Rattle.time_find.proofs.run.date_in.Goals as goal

pub loop-rest-init : goal.loop-rest-init
loop-rest-init c = all_left _ _ _ _

pub returns-in_default : goal.returns-in_default
returns-in_default c =
    λ batches ok fits are.
    let clean : AreBytes c.args.run.now = λ i. let b = c.type_inv.run i in omega (arith, b) in
    let left = c.loop-rest.invariant clean batches ok fits are in
    let some : 0 < length c.loop-rest.rest.now = search rules in
    let head = head_stands _ _ _ batches c.loop-rest.rest.now _ some left in
    absurd (c.in_default.not-Ok head.0 (c.read_head.ensures ∙ head.1))

pub returns-then-head-ts : goal.returns-then-head-ts
returns-then-head-ts c =
    λ batches ok fits are.
    let clean : AreBytes c.args.run.now = λ i. let b = c.type_inv.run i in omega (arith, b) in
    let left = c.loop-rest.invariant clean batches ok fits are in
    let some : 0 < length c.loop-rest.rest.now = search rules in
    let ts : to_z w64 (of_z w64 c.args.ts) ≡ c.args.ts = search rules in
    let base : c.cast_unsigned-base.result ≡ cast_unsigned w64 c.in-Ok.head.base_offset = search rules in
    let late : c.args.ts ≤ℤ c.in-Ok.head.max_ts = search rules in
    let stands = stands_first _ _ _ batches c.loop-rest.rest.now _ c.in-Ok.head some left (sym c.in-Ok.ensures) in
    ap (λ (z : ℤ). first_at z c.args.start batches) (sym ts)
    ∙ (dated_at _ _ _ batches c.loop-rest.rest.now c.in-Ok.head c.cast_unsigned-base.result stands (subst (λ (z : ℤ). z ≤ℤ c.in-Ok.head.max_ts) (sym ts) late) base
    ∙ ap Some (sym c.max.ensures))

pub loop-rest-preserved : goal.loop-rest-preserved
loop-rest-preserved c =
    λ clean batches ok fits are.
    let left = c.loop-rest.invariant clean batches ok fits are in
    let some : 0 < length c.loop-rest.rest.now = search rules in
    let ts : to_z w64 (of_z w64 c.args.ts) ≡ c.args.ts = search rules in
    let base : c.cast_unsigned-base.result ≡ cast_unsigned w64 c.in-Ok.head.base_offset = search rules in
    let delta : c.cast_unsigned.result ≡ cast_unsigned w32 c.in-Ok.head.last_offset_delta = search rules in
    let long : c.cast_unsigned-in-loop-rest.result ≡ cast_unsigned w32 c.in-Ok.head.batch_length = search rules in
    let early : c.in-Ok.head.max_ts <ℤ c.args.ts = search rules in
    let stands = stands_first _ _ _ batches c.loop-rest.rest.now _ c.in-Ok.head some left (sym c.in-Ok.ensures) in
    let place : c.min.result ≡ min (size_in c.in-Ok.head) (length c.loop-rest.rest.now) = c.min.ensures ∙ ap (λ n. min (12 + n) (length c.loop-rest.rest.now)) long in
    let end : c.saturating_add-end.result ≡ capped (cast_unsigned w64 c.in-Ok.head.base_offset + cast_unsigned w32 c.in-Ok.head.last_offset_delta + 1) =
    omega (arith, c.saturating_add-end.ensures, c.saturating_add.ensures, base, delta) in
    goes_by _ _ _ batches c.loop-rest.rest.now c.split_at.result.1.now c.in-Ok.head c.saturating_add-end.result (size_in c.in-Ok.head) stands fits
    (subst (λ (z : ℤ). c.in-Ok.head.max_ts <ℤ z) (sym ts) early) refl end (c.split_at.ensures.back ∙ ap (λ n. drop n c.loop-rest.rest.now) place)

pub returns : goal.returns
returns c =
    λ batches ok fits are.
    let clean : AreBytes c.args.run.now = λ i. let b = c.type_inv.run i in omega (arith, b) in
    let left = c.loop-rest.invariant clean batches ok fits are in
    let none : length c.loop-rest.rest.now ≡ 0 = search rules in
    let ts : to_z w64 (of_z w64 c.args.ts) ≡ c.args.ts = search rules in
    subst (λ (z : ℤ). IsDated z c.args.start c.args.offset batches (Behind c.loop-rest.end)) ts (dated_behind _ _ _ batches c.loop-rest.rest.now c.loop-rest.end left none)
