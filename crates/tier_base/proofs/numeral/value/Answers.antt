use Rattle.std.proofs.Common.{◌∙◌, sym, ap, refl, arith, List, ℕ, min, get_or, drop, ◌+◌}
use Rattle.std.proofs.lemmas.List.{drop_more}
use Rattle.tier_base.specs.Number.{value_of}
use Rattle.tier_base.proofs.Digits.{value_of-step}
use Rattle.tier_base.proofs.numeral.value.Goals as goal

pub loop-digit-preserved : goal.loop-digit-preserved
loop-digit-preserved c =
    let ds = c.args.digits.now in
    let i = c.loop-digit.digit-index in
    let n = c.loop-digit.number in
    let step = value_of-step (drop (i + 1) ds) n 18446744073709551615 (get_or ds i 0) c.saturating_add-number.result (rw (c.saturating_add-number.ensures, c.saturating_mul.ensures, c.saturating_sub.ensures) refl) in
    record {
      fits = omega (arith, c.saturating_add-number.ensures);
      value = step ∙ (ap (λ (t : List ℕ). min (value_of n t) 18446744073709551615) (sym (drop_more ds i 0 c.loop-digit-test.true)) ∙ c.loop-digit.invariant.value);
    }
