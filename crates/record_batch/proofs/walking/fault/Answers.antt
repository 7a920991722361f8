use Rattle.std.proofs.Common.{◌≡◌, ◌∙◌, true, rules, arith}
use Rattle.record_batch.specs.Check.{is_number}
use Rattle.record_batch.proofs.Walks.{record-passed}
use Rattle.record_batch.proofs.walking.fault.Goals as goal

pub loop-number-preserved : goal.loop-number-preserved
loop-number-preserved c =
    let has_own : is_number c.in-Some.delta c.loop-number.number ≡ true = search rules in (
      record-passed c.args.count c.loop-number.number c.loop-number.rest.now c.in-Some.after.now c.in-Some.delta (omega arith) c.in-Some.ensures.exact has_own
          ∙ c.loop-number.invariant.0,
      omega (arith, c.in-Some.ensures.within, c.loop-number.invariant.1),
    )
