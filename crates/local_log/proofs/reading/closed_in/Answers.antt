use Rattle.std.proofs.Common.{◌≡◌, ◌∙◌, ◌-◌, ℕ, List, ap, subst, sym, refl, arith, inr, take}
use Rattle.std.specs.Prelude.{slice_range}
use Rattle.segment_file.specs.Segment.{IsSegment}
use Rattle.tier_base.specs.Told.{bytes_in}
use Rattle.local_log.specs.Reading.{IsSegmentFront, HasNoSegment}
use Rattle.local_log.proofs.Strays.{segment_row}
use Rattle.local_log.proofs.reading.closed_in.Goals as goal

pub returns-in-Some-first_stray-clause-err : goal.returns-in-Some-first_stray-clause-err
returns-in-Some-first_stray-clause-err c =
    let bytes = c.in-Some.bytes in
    let size = c.args.size in
    let w = c.bytes-in-Ok.ensures.whole in
    let read = c.in-Ok.ensures in
    let all : size - 0 ≡ size = omega arith in
    let front : take size bytes ≡ slice_range bytes 0 size = ap (λ (n : ℕ). take n bytes) (sym all) in
    let row = segment_row c.in-Ok.closed.base c.as_slice.result.now w.batches w.is (c.as_slice.ensures ∙ c.bytes-in-Ok.ensures.bytes ∙ w.bytes_are) in
    let long = c.len-len.ensures.value in
    let none : HasNoSegment c.args.line.now c.args.base size bytes c.in-Some-first_stray.at = record {
      bad = inr (inr (record {
        batches = w.batches;
        is = subst (λ (n : ℕ). IsSegment n w.batches) read.0 w.is;
        long = omega (arith, long, c.if-len-size.false);
        bytes_are = front ∙ sym c.in_ok-slice.ensures.ok ∙ sym read.1 ∙ w.bytes_are;
        strays = c.in-Some-first_stray.ensures.some row;
      }));
    } in
    (refl, subst (λ (b : List ℕ). HasNoSegment c.args.line.now c.args.base size b c.in-Some-first_stray.at) (sym (ap bytes_in c.in-Some.is)) none)

pub returns-in-Ok-clause-ok : goal.returns-in-Ok-clause-ok
returns-in-Ok-clause-ok c =
    let bytes = c.in-Some.bytes in
    let size = c.args.size in
    let w = c.bytes-in-Ok.ensures.whole in
    let read = c.in-Ok.ensures in
    let all : size - 0 ≡ size = omega arith in
    let front : take size bytes ≡ slice_range bytes 0 size = ap (λ (n : ℕ). take n bytes) (sym all) in
    let row = segment_row c.in-Ok.closed.base c.as_slice.result.now w.batches w.is (c.as_slice.ensures ∙ c.bytes-in-Ok.ensures.bytes ∙ w.bytes_are) in
    let long = c.len-len.ensures.value in
    subst (λ (b : List ℕ). IsSegmentFront c.args.line.now c.args.base size b c.in-Ok.closed) (sym (ap bytes_in c.in-Some.is)) (record {
      whole = w;
      epochs = c.in-None.ensures.none refl row;
      base_is = read.0;
      long = omega (arith, long, c.if-len-size.false);
      bytes_are = read.1 ∙ c.in_ok-slice.ensures.ok ∙ sym front;
    })
