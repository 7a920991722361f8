use Rattle.std.proofs.Common.{◌≡◌, ◌<◌, ◌≤◌, ℕ, ap, subst, arith}
use Rattle.log_terms.specs.Batch.{last_of}
use Rattle.plain_executor.proofs.Splits.{AreAbove, below_more, above_more, parted_before, parted_after}
use Rattle.plain_executor.proofs.ends.count_up_to.Goals as goal

pub loop-low-preserved-then-last_offset-from : goal.loop-low-preserved-then-last_offset-from
loop-low-preserved-then-last_offset-from c =
    let is = ap last_of c.as_slice.ensures in
    let less : last_of c.get.result.now < c.args.n = omega (arith, is) in
    record {
      order = omega arith;
      within = c.loop-low.invariant.within;
      below = below_more c.args.n c.args.log.now _ c.get.result.now c.requires c.get.ensures less;
      above = c.loop-low.invariant.above;
    }

pub loop-low-preserved : goal.loop-low-preserved
loop-low-preserved c =
    let is = ap last_of c.as_slice.ensures in
    let more : c.args.n ≤ last_of c.get.result.now = omega (arith, is) in
    record {
      order = omega arith;
      within = omega arith;
      below = c.loop-low.invariant.below;
      above = above_more c.args.n c.args.log.now _ c.get.result.now c.requires c.get.ensures more;
    }

pub returns-clause-before : goal.returns-clause-before
returns-clause-before c =
    let same : c.loop-low.high ≡ c.loop-low.low = omega arith in
    let above = subst (λ (k : ℕ). AreAbove c.args.n c.args.log.now k) same c.loop-low.invariant.above in
    parted_before c.args.n c.args.log.now c.loop-low.low (omega arith) c.loop-low.invariant.below above

pub returns-clause-after : goal.returns-clause-after
returns-clause-after c =
    let same : c.loop-low.high ≡ c.loop-low.low = omega arith in
    let above = subst (λ (k : ℕ). AreAbove c.args.n c.args.log.now k) same c.loop-low.invariant.above in
    parted_after c.args.n c.args.log.now c.loop-low.low (omega arith) c.loop-low.invariant.below above
