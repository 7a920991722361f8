use Rattle.std.proofs.Common.{ap, sym, ℕ, ℤ, of_z, w64}
use Rattle.tier_audit.proofs.Among.{passed_on}
use Rattle.tier_audit.proofs.time_part.find_behind.Goals as goal
use Rattle.tier_audit.proofs.time_part.find_behind.Goals.{else-height-moment-via-then-height-moment+else-height-moment-2, else-height-moment-via-else-height-moment}

pub loop-height-preserved : goal.loop-height-preserved
loop-height-preserved c =
    passed_on c.args.moment c.in-Some.height.now c.args.heights.now c.loop-height.rest.now c.in-Some.others.now c.loop-height.invariant.0 c.loop-height.invariant.1 c.in-Some.ensures.cases.0 c.loop-height.invariant.2
    (λ e. elim c.else-height-moment.branch [
      | else-height-moment-via-then-height-moment+else-height-moment-2 w ↦ w.if-height-moment-2.false (ap (λ (p : ℤ × ℕ). p.1) (sym e))
      | else-height-moment-via-else-height-moment w ↦ w.if-height-moment.false (ap (λ (p : ℤ × ℕ). of_z w64 p.0) (sym e))
    ])
