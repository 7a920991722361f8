use Rattle.std.proofs.Common.{◌≡◌, refl, inl, inr, ℕ, ℤ, ◌++◌, arith}
use Rattle.std.specs.Option.{IsNone}
use Rattle.std.specs.Prelude.{◌<ℤ◌}
use Rattle.std.proofs.lemmas.Int.{ints}
use Rattle.sparse_index.specs.Times.{FitsMoment, RisesInTime, moment_bytes}
use Rattle.sparse_index.proofs.BytesLaws.{cut-front}
use Rattle.sparse_index.proofs.TimeLaws.{IsWide, moment-long, moment-same, whole-entries}
use Rattle.tier_audit.proofs.Among.{read_more, none_are, first_bad, none_read}
use Rattle.tier_audit.proofs.time_part.place_in.Goals as goal

lt_along : (a b c : ℤ) → a <ℤ b → b <ℤ c → a <ℤ c
lt_along a b c h k = grind (arith, ints)

lt_never : (a : ℤ) → a <ℤ a → ⊥
lt_never a h = grind (arith, ints)

along : (x y z : ℤ × ℕ) → RisesInTime x y → RisesInTime y z → RisesInTime x z
along x y z h k = (lt_along x.0 y.0 z.0 h.0 k.0, omega (arith, h.1, k.1))

never : (x : ℤ × ℕ) → RisesInTime x x → ⊥
never x h = lt_never x.0 h.0

wide : (x : ℤ × ℕ) → FitsMoment x → IsWide x
wide x fits = (fits.0, omega (arith, fits.2))

pub returns-then-bytes-ne0 : goal.returns-then-bytes-ne0
returns-then-bytes-ne0 c = (λ moments are e. c.if-bytes-ne0.true (whole-entries c.args.bytes.now moments e), inl (c.if-bytes-ne0.true, refl))

pub loop-rest-init : goal.loop-rest-init
loop-rest-init c = none_read FitsMoment RisesInTime along never moment_bytes 12 (omega arith) moment-long IsWide moment-same wide c.args.heights.now c.args.bytes.now c.if-bytes-ne0.false

pub returns-in-None : goal.returns-in-None
returns-in-None c =
    let moment = c.read_moment.result in
    let rest : c.loop-rest.rest.now ≡ moment_bytes moment ++ c.split_at.result.1.now = cut-front 12 c.loop-rest.rest.now c.split_at.result.0.now c.split_at.result.1.now (moment_bytes moment) c.split_at.ensures.front c.split_at.ensures.back c.read_moment.ensures.spelled in
    let none : IsNone c.find_behind.result = rw c.in-None.is refl in (
      none_are FitsMoment RisesInTime along never moment_bytes 12 (omega arith) moment-long IsWide moment-same wide c.args.heights.now c.args.bytes.now c.loop-rest.rest.now c.split_at.result.1.now c.loop-rest.left.now moment c.requires c.loop-rest.invariant rest c.read_moment.ensures.wide (c.find_behind.ensures.none none),
      inr (
        c.if-bytes-ne0.false,
        first_bad FitsMoment RisesInTime along never moment_bytes 12 (omega arith) moment-long IsWide moment-same wide c.args.heights.now c.args.bytes.now c.loop-rest.rest.now c.split_at.result.1.now c.loop-rest.left.now moment _ c.requires c.loop-rest.invariant rest c.read_moment.ensures.wide (c.find_behind.ensures.none none) refl,
      ),
    )

pub loop-rest-preserved : goal.loop-rest-preserved
loop-rest-preserved c =
    let moment = c.read_moment.result in
    let rest : c.loop-rest.rest.now ≡ moment_bytes moment ++ c.split_at.result.1.now = cut-front 12 c.loop-rest.rest.now c.split_at.result.0.now c.split_at.result.1.now (moment_bytes moment) c.split_at.ensures.front c.split_at.ensures.back c.read_moment.ensures.spelled in
    let even = c.loop-rest.invariant.even in
    read_more FitsMoment RisesInTime along never moment_bytes 12 (omega arith) moment-long IsWide moment-same wide c.args.heights.now c.args.bytes.now c.loop-rest.rest.now c.split_at.result.1.now c.loop-rest.left.now c.in-Some.more.now moment c.requires c.loop-rest.invariant rest c.in-Some.ensures.some (omega (arith, even, c.split_at.ensures.back_len))
