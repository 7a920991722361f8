use Rattle.std.proofs.Common.{◌≡◌, ℕ, ◌<◌, ◌^◌, ◌*◌, ◌+◌, arith}
use Rattle.std.proofs.lemmas.Fmt.{length-decimal-le}
use Rattle.std.proofs.lemmas.Grind.{pow_more}
use Rattle.trace_text.proofs.room.digits.Goals as goal

pub returns-then-n-eq0-clause-enough : goal.returns-then-n-eq0-clause-enough
returns-then-n-eq0-clause-enough c = length-decimal-le 1 c.args.n (omega arith) (omega (arith, c.if-n-eq0.true)) (omega (arith, c.if-n-eq0.true))

next-power : (k : ℕ) → 10 * 10 ^ k ≡ 10 ^ (k + 1)
next-power k = omega (arith, pow_more 10 k)

pub returns-else-n-eq0-clause-enough : goal.returns-else-n-eq0-clause-enough
returns-else-n-eq0-clause-enough c =
    let k = c.ilog10.result in
    let below : c.args.n < 10 ^ (k + 1) = rw (← next-power k) c.ilog10.ensures.next_power_gt in
    length-decimal-le (k + 1) c.args.n (omega arith) below c.ranges.n.fits
