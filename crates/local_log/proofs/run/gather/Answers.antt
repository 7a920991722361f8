use Rattle.std.proofs.Common.{◌≡◌, ◌∙◌, ◌≤◌, ◌+◌, ◌^◌, ℕ, sym, subst, refl, arith, Option, length, true, false}
use Rattle.std.specs.Prelude.{◌||◌, nat_le, unwrap_or}
use Rattle.log_terms.specs.Batch.{base_of, last_of, epoch_of}
use Rattle.segment_file.proofs.Standing.{AreBytes}
use Rattle.segment_file.proofs.Laying.{end_up}
use Rattle.local_log.specs.Stored.{size_of}
use Rattle.local_log.specs.Run.{rolls_before, snapshot}
use Rattle.local_log.specs.Taking.{AsksOf, line_or, IsGathering}
use Rattle.local_log.proofs.Gathered.{base_seg, coming, coming_headed, coming_tells, coming_asks, goes_in, may_push, gathered_more, laid_more, low_more, gathered_all, gathered_stop, nothing_gathered}
use Rattle.local_log.proofs.run.gather.Goals as goal
use Rattle.local_log.proofs.run.gather.Goals.{else-loop-at-test, then-loop-at-test+then-stops}

pub loop-at-init : goal.loop-at-init
loop-at-init c = record {
  so_far = nothing_gathered c.args.segment.now c.args.line.now c.args.run.now c.args.most c.requires.run;
  laid = c.requires.laid;
  low = c.requires.low;
  inside = omega arith;
}

pub head_at-head-requires-clause-stands : goal.head_at-head-requires-clause-stands
head_at-head-requires-clause-stands c =
    let clean : AreBytes c.args.run.now = λ i. let b = c.type_inv.run i in omega (arith, b) in
    let i = c.loop-at.invariant in
    let k = coming c.args.segment.now c.args.line.now c.args.run.now c.args.most c.loop-at.at c.loop-at.segment c.loop-at.newer c.requires.most c.requires.low i.so_far i.laid c.loop-at-test.true in
    rw (coming_headed c.args.segment.now c.args.line.now c.args.run.now c.args.most c.loop-at.at c.loop-at.segment c.loop-at.newer c.requires.most c.requires.low i.so_far i.laid k clean) refl

pub asked_of-batch-requires : goal.asked_of-batch-requires
asked_of-batch-requires c =
    let clean : AreBytes c.args.run.now = λ i. let b = c.type_inv.run i in omega (arith, b) in
    let i = c.loop-at.invariant in
    let k = coming c.args.segment.now c.args.line.now c.args.run.now c.args.most c.loop-at.at c.loop-at.segment c.loop-at.newer c.requires.most c.requires.low i.so_far i.laid c.loop-at-test.true in
    let t = coming_tells c.args.segment.now c.args.line.now c.args.run.now c.args.most c.loop-at.at c.loop-at.segment c.loop-at.newer c.requires.most c.requires.low i.so_far i.laid k clean c.head_at-head.result c.head_at-head.ensures in
    let up = end_up c.args.segment.now.base 0 c.args.segment.now.batches c.requires.laid.laid in
    let same = base_seg c.args.segment.now c.args.line.now c.args.run.now c.args.most c.loop-at.at c.loop-at.segment c.loop-at.newer c.requires.most c.requires.low i.so_far i.laid in
    omega (arith, t.base, t.delta, k.near_end, k.base, i.laid.near, up, same, c.requires.low)

pub stops-requires-clause-from_base : goal.stops-requires-clause-from_base
stops-requires-clause-from_base c =
    let clean : AreBytes c.args.run.now = λ i. let b = c.type_inv.run i in omega (arith, b) in
    let i = c.loop-at.invariant in
    let k = coming c.args.segment.now c.args.line.now c.args.run.now c.args.most c.loop-at.at c.loop-at.segment c.loop-at.newer c.requires.most c.requires.low i.so_far i.laid c.loop-at-test.true in
    let asks : AsksOf k.batch c.asked_of-batch.result = subst (AsksOf k.batch) (sym c.asked_of-batch.ensures) (coming_asks c.args.segment.now c.args.line.now c.args.run.now c.args.most c.loop-at.at c.loop-at.segment c.loop-at.newer c.requires.most c.requires.low i.so_far i.laid k clean c.head_at-head.result c.head_at-head.ensures) in
    omega (arith, asks.last, k.from_base)

pub with_epoch-requires-clause-epoch_fits : goal.with_epoch-requires-clause-epoch_fits
with_epoch-requires-clause-epoch_fits c =
    let clean : AreBytes c.args.run.now = λ i. let b = c.type_inv.run i in omega (arith, b) in
    let i = c.loop-at.invariant in
    let k = coming c.args.segment.now c.args.line.now c.args.run.now c.args.most c.loop-at.at c.loop-at.segment c.loop-at.newer c.requires.most c.requires.low i.so_far i.laid c.loop-at-test.true in
    let asks : AsksOf k.batch c.asked_of-batch.result = subst (AsksOf k.batch) (sym c.asked_of-batch.ensures) (coming_asks c.args.segment.now c.args.line.now c.args.run.now c.args.most c.loop-at.at c.loop-at.segment c.loop-at.newer c.requires.most c.requires.low i.so_far i.laid k clean c.head_at-head.result c.head_at-head.ensures) in
    omega (arith, asks.epoch, k.epoch_fits)

pub with_epoch-requires-clause-above : goal.with_epoch-requires-clause-above
with_epoch-requires-clause-above c =
    let clean : AreBytes c.args.run.now = λ i. let b = c.type_inv.run i in omega (arith, b) in
    let i = c.loop-at.invariant in
    let k = coming c.args.segment.now c.args.line.now c.args.run.now c.args.most c.loop-at.at c.loop-at.segment c.loop-at.newer c.requires.most c.requires.low i.so_far i.laid c.loop-at-test.true in
    let asks : AsksOf k.batch c.asked_of-batch.result = subst (AsksOf k.batch) (sym c.asked_of-batch.ensures) (coming_asks c.args.segment.now c.args.line.now c.args.run.now c.args.most c.loop-at.at c.loop-at.segment c.loop-at.newer c.requires.most c.requires.low i.so_far i.laid k clean c.head_at-head.result c.head_at-head.ensures) in
    λ last is.
    let up = subst (λ (o : Option ℕ). unwrap_or o 0 ≤ epoch_of k.batch) is k.rises in
    omega (arith, asks.epoch, up)

pub push-requires : goal.push-requires
push-requires c =
    let clean : AreBytes c.args.run.now = λ i. let b = c.type_inv.run i in omega (arith, b) in
    let i = c.loop-at.invariant in
    let k = coming c.args.segment.now c.args.line.now c.args.run.now c.args.most c.loop-at.at c.loop-at.segment c.loop-at.newer c.requires.most c.requires.low i.so_far i.laid c.loop-at-test.true in
    let asks : AsksOf k.batch c.asked_of-batch.result = subst (AsksOf k.batch) (sym c.asked_of-batch.ensures) (coming_asks c.args.segment.now c.args.line.now c.args.run.now c.args.most c.loop-at.at c.loop-at.segment c.loop-at.newer c.requires.most c.requires.low i.so_far i.laid k clean c.head_at-head.result c.head_at-head.ensures) in
    let test : (rolls_before c.args.most c.loop-at.segment.base (size_of c.loop-at.segment) (length k.batch) (last_of k.batch) || nat_le (2 ^ 62) (last_of k.batch)) ≡ false =
    rw (← asks.size, ← asks.last) (sym c.stops.ensures ∙ c.if-stops.false) in
    let goes = goes_in c.args.most c.loop-at.segment.base (size_of c.loop-at.segment) (length k.batch) (last_of k.batch) test in
    may_push c.args.segment.now c.args.line.now c.args.run.now c.args.most c.loop-at.at c.loop-at.segment c.loop-at.newer c.requires.most c.requires.low i.so_far i.laid k clean c.head_at-head.result c.head_at-head.ensures goes

pub loop-at-preserved : goal.loop-at-preserved
loop-at-preserved c =
    let clean : AreBytes c.args.run.now = λ i. let b = c.type_inv.run i in omega (arith, b) in
    let i = c.loop-at.invariant in
    let k = coming c.args.segment.now c.args.line.now c.args.run.now c.args.most c.loop-at.at c.loop-at.segment c.loop-at.newer c.requires.most c.requires.low i.so_far i.laid c.loop-at-test.true in
    let asks : AsksOf k.batch c.asked_of-batch.result = subst (AsksOf k.batch) (sym c.asked_of-batch.ensures) (coming_asks c.args.segment.now c.args.line.now c.args.run.now c.args.most c.loop-at.at c.loop-at.segment c.loop-at.newer c.requires.most c.requires.low i.so_far i.laid k clean c.head_at-head.result c.head_at-head.ensures) in
    let test : (rolls_before c.args.most c.loop-at.segment.base (size_of c.loop-at.segment) (length k.batch) (last_of k.batch) || nat_le (2 ^ 62) (last_of k.batch)) ≡ false =
    rw (← asks.size, ← asks.last) (sym c.stops.ensures ∙ c.if-stops.false) in
    let goes = goes_in c.args.most c.loop-at.segment.base (size_of c.loop-at.segment) (length k.batch) (last_of k.batch) test in
    let entered : line_or c.args.line.now c.in_ok-newer.newer ≡ snapshot (line_or c.args.line.now c.loop-at.newer) (epoch_of k.batch) (base_of k.batch) =
    rw (← asks.epoch, ← asks.base) c.in_ok-newer.ensures in
    record {
      so_far = subst (λ (n : ℕ). IsGathering c.args.segment.now c.args.line.now c.args.run.now c.args.most (c.loop-at.at + n) c.push.new.self c.in_ok-newer.newer) (sym asks.size)
          (gathered_more c.args.segment.now c.args.line.now c.args.run.now c.args.most c.loop-at.at c.loop-at.segment c.loop-at.newer c.requires.most c.requires.low i.so_far i.laid k clean c.head_at-head.result c.head_at-head.ensures goes test c.push.new.self c.in_ok-push.ensures.ok c.in_ok-newer.newer entered);
      laid = laid_more c.args.segment.now c.args.line.now c.args.run.now c.args.most c.loop-at.at c.loop-at.segment c.loop-at.newer c.requires.most c.requires.low i.so_far i.laid k clean c.head_at-head.result c.head_at-head.ensures goes test c.push.new.self c.in_ok-push.ensures.ok c.in_ok-newer.newer entered;
      low = low_more c.args.segment.now c.args.line.now c.args.run.now c.args.most c.loop-at.at c.loop-at.segment c.loop-at.newer c.requires.most c.requires.low i.so_far i.laid k clean c.head_at-head.result c.head_at-head.ensures goes test c.push.new.self c.in_ok-push.ensures.ok c.in_ok-newer.newer entered;
      inside = omega (arith, asks.size, k.inside);
    }

pub returns-clause-ok : goal.returns-clause-ok
returns-clause-ok c =
    let i = c.loop-at.invariant in
    elim c.loop-at-test.branch [
      | else-loop-at-test w ↦ gathered_all c.args.segment.now c.args.line.now c.args.run.now c.args.most c.loop-at.at c.loop-at.segment c.loop-at.newer c.requires.most c.requires.low i.so_far i.laid i.low (omega (arith, w.loop-at-test.false))
      | then-loop-at-test+then-stops w ↦ (
          let clean : AreBytes c.args.run.now = λ i. let b = c.type_inv.run i in omega (arith, b) in
          let k = coming c.args.segment.now c.args.line.now c.args.run.now c.args.most c.loop-at.at c.loop-at.segment c.loop-at.newer c.requires.most c.requires.low i.so_far i.laid w.loop-at-test.true in
          let asks : AsksOf k.batch w.asked_of-batch.result = subst (AsksOf k.batch) (sym w.asked_of-batch.ensures) (coming_asks c.args.segment.now c.args.line.now c.args.run.now c.args.most c.loop-at.at c.loop-at.segment c.loop-at.newer c.requires.most c.requires.low i.so_far i.laid k clean w.head_at-head.result w.head_at-head.ensures) in
          let test : (rolls_before c.args.most c.loop-at.segment.base (size_of c.loop-at.segment) (length k.batch) (last_of k.batch) || nat_le (2 ^ 62) (last_of k.batch)) ≡ true =
          rw (← asks.size, ← asks.last) (sym w.stops.ensures ∙ w.if-stops.true) in
          gathered_stop c.args.segment.now c.args.line.now c.args.run.now c.args.most c.loop-at.at c.loop-at.segment c.loop-at.newer c.requires.most c.requires.low i.so_far i.laid k test i.low
          )
    ]
