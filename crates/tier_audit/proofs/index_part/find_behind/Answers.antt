use Rattle.std.proofs.Common.{ap, sym}
use Rattle.tier_audit.proofs.Among.{passed_on}
use Rattle.tier_audit.proofs.index_part.find_behind.Goals as goal
use Rattle.tier_audit.proofs.index_part.find_behind.Goals.{else-mark-entry-via-then-mark-entry+else-mark-entry-2, else-mark-entry-via-else-mark-entry}

pub loop-mark-preserved : goal.loop-mark-preserved
loop-mark-preserved c =
    passed_on c.args.entry c.in-Some.mark.now c.args.marks.now c.loop-mark.rest.now c.in-Some.others.now c.loop-mark.invariant.0 c.loop-mark.invariant.1 c.in-Some.ensures.cases.0 c.loop-mark.invariant.2
    (λ e. elim c.else-mark-entry.branch [
      | else-mark-entry-via-then-mark-entry+else-mark-entry-2 w ↦ w.if-mark-entry-2.false (ap (λ p. p.1) (sym e))
      | else-mark-entry-via-else-mark-entry w ↦ w.if-mark-entry.false (ap (λ p. p.0) (sym e))
    ])
