use Rattle.std.proofs.Common.{◌≡◌, sym, ap, ◌+◌, ◌-◌, ◌*◌, ◌<◌, drop, get_or, arith}
use Rattle.std.proofs.lemmas.List.{drop_more}
use Rattle.tier_base.specs.Number.{value_of}
use Rattle.trace_text.proofs.Growing.{value_of-ge, up_to-none}
use Rattle.trace_text.proofs.counts.value.Goals as goal

pub returns-in_default : goal.returns-in_default
returns-in_default c =
    let ds = c.args.digits.now in
    let i = c.loop-digit.digit-index in
    let n = c.loop-digit.number in
    let more : value_of n (drop i ds) ≡ value_of (10 * n + (get_or ds i 0 - 48)) (drop (i + 1) ds)
    = ap (value_of n) (drop_more ds i 0 c.loop-digit-test.true) in
    let ge = value_of-ge (drop (i + 1) ds) (10 * n + (get_or ds i 0 - 48)) in
    let great : 18446744073709551615 < n * 10 = omega (arith, c.in_default.ensures) in
    sym (up_to-none 18446744073709551615 (value_of 0 ds) (omega (arith, more, ge, great, c.loop-digit.invariant.value)))

pub returns-in_default-checked_add : goal.returns-in_default-checked_add
returns-in_default-checked_add c =
    let ds = c.args.digits.now in
    let i = c.loop-digit.digit-index in
    let n = c.loop-digit.number in
    let more : value_of n (drop i ds) ≡ value_of (10 * n + (get_or ds i 0 - 48)) (drop (i + 1) ds)
    = ap (value_of n) (drop_more ds i 0 c.loop-digit-test.true) in
    let ge = value_of-ge (drop (i + 1) ds) (10 * n + (get_or ds i 0 - 48)) in
    let great : 18446744073709551615 < 10 * n + (get_or ds i 0 - 48)
    = omega (arith, c.in_default-checked_add.ensures, c.in-Some.ensures, c.saturating_sub.ensures) in
    sym (up_to-none 18446744073709551615 (value_of 0 ds) (omega (arith, more, ge, great, c.loop-digit.invariant.value)))
