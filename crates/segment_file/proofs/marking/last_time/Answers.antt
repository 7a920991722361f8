use Rattle.std.proofs.Common.{◌≡◌, ◌∙◌, sym, rules, arith, subst, to_z, of_z, w64}
use Rattle.std.specs.Prelude.{negsuc, pos, ◌≤ℤ◌, ℤ}
use Rattle.std.proofs.lemmas.Int.{ints}
use Rattle.segment_file.proofs.Tracking.{last_moment}
use Rattle.segment_file.proofs.marking.last_time.Goals as goal

pub returns-in-Some-clause-bound : goal.returns-in-Some-clause-bound
returns-in-Some-clause-bound c =
    let ts : to_z w64 (of_z w64 c.in-Some.ts) ≡ c.in-Some.ts = search rules in
    let up : pos 0 ≤ℤ c.in-Some.ts = last_moment c.args.times.now.entries (c.in-Some.ts, c.in-Some.field-0-1) c.last.ensures.stand (sym c.last.ensures.last ∙ c.in-Some.is) in
    subst (λ z. negsuc 0 ≤ℤ z) (sym ts) (above c.in-Some.ts up)
  where
    above : (z : ℤ) → pos 0 ≤ℤ z → negsuc 0 ≤ℤ z
    above z up = grind (arith, ints)
