use Rattle.std.proofs.Common.{◌≡◌, ◌∙◌, ◌+◌, sym, ap, refl, arith, Some}
use Rattle.log_terms.specs.Batch.{base_of}
use Rattle.log_terms.specs.Line.{epoch_at}
use Rattle.segment_file.proofs.Standing.{AreBytes}
use Rattle.local_log.proofs.Strays.{nothing_passed, coming, coming_headed, coming_tells, more_passed, strays_here, all_passed}
use Rattle.local_log.proofs.epochs.first_stray.Goals as goal

pub loop-at-init : goal.loop-at-init
loop-at-init c = record {
  passed = nothing_passed c.args.line.now c.args.bytes.now c.requires;
  known = λ o le lt. absurd (omega (arith, lt));
  inside = omega arith;
}

pub head_at-head-requires-clause-stands : goal.head_at-head-requires-clause-stands
head_at-head-requires-clause-stands c =
    let p = c.loop-at.invariant.passed in
    let k = coming c.args.line.now c.args.bytes.now c.loop-at.at p c.loop-at-test.true in
    rw (coming_headed c.args.line.now c.args.bytes.now c.loop-at.at p k) refl

pub returns-then-not-gives-clause-some : goal.returns-then-not-gives-clause-some
returns-then-not-gives-clause-some c =
    let clean : AreBytes c.args.bytes.now = λ i. let b = c.type_inv.bytes i in omega (arith, b) in
    let p = c.loop-at.invariant.passed in
    let k = coming c.args.line.now c.args.bytes.now c.loop-at.at p c.loop-at-test.true in
    let t = coming_tells c.args.line.now c.args.bytes.now c.loop-at.at p k c.head_at-head.result clean c.head_at-head.ensures in
    let here : c.stretch_at-stretch.result.epoch ≡ epoch_at c.args.line.now (base_of k.batch) = c.stretch_at-stretch.ensures.here ∙ ap (epoch_at c.args.line.now) t.base in
    strays_here c.args.line.now c.args.bytes.now c.loop-at.at p k (λ same. absurd (cc (c.gives.ensures.1 (here ∙ same ∙ ap (λ n. Some n) (sym t.epoch)), c.if-not-gives.true)))

pub loop-at-preserved : goal.loop-at-preserved
loop-at-preserved c =
    let clean : AreBytes c.args.bytes.now = λ i. let b = c.type_inv.bytes i in omega (arith, b) in
    let p = c.loop-at.invariant.passed in
    let k = coming c.args.line.now c.args.bytes.now c.loop-at.at p c.loop-at-test.true in
    let t = coming_tells c.args.line.now c.args.bytes.now c.loop-at.at p k c.head_at-head.result clean c.head_at-head.ensures in
    let here : c.stretch_at-stretch.result.epoch ≡ epoch_at c.args.line.now (base_of k.batch) = c.stretch_at-stretch.ensures.here ∙ ap (epoch_at c.args.line.now) t.base in
    let size = t.size in
    let inside = k.inside in
    record {
      passed = more_passed c.args.line.now c.args.bytes.now c.loop-at.at p k _ (ap (λ n. c.loop-at.at + n) (c.size_in-at.ensures ∙ size))
          (sym here ∙ c.gives.ensures.0 (cc (c.if-not-gives.false)) ∙ ap (λ n. Some n) t.epoch);
      known = c.stretch_at-stretch.ensures.gives;
      inside = omega (arith, size, inside, c.size_in-at.ensures);
    }

pub returns-clause-none : goal.returns-clause-none
returns-clause-none c = λ is. all_passed c.args.line.now c.args.bytes.now c.loop-at.at c.loop-at.invariant.passed (omega (arith, c.loop-at-test.false))
