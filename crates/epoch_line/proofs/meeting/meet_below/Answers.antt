use Rattle.std.proofs.Common.{arith}
use Rattle.epoch_line.proofs.Diverging.{front-line, step-past, step-apart, step-here, step-none, meet-swap}
use Rattle.epoch_line.proofs.meeting.meet_below.Goals as goal

pub returns-in_default-split_last : goal.returns-in_default-split_last
returns-in_default-split_last c =
    c.loop-mine.invariant.meet 0 (meet-swap _ _ _ _ (step-none c.loop-mine.other.now c.loop-mine.own.now c.loop-mine.limit c.in_default-split_last.ensures.cases))

pub loop-mine-preserved-then-limit-mine : goal.loop-mine-preserved-then-limit-mine
loop-mine-preserved-then-limit-mine c = record {
  own = front-line _ _ _ c.in-Some.ensures.cases.0 c.loop-mine.invariant.own;
  other = c.loop-mine.invariant.other;
  meet = λ n h. c.loop-mine.invariant.meet n (step-past _ _ _ _ _ n c.in-Some.ensures.cases.0 c.loop-mine.invariant.own c.if-limit-mine.true h);
}

pub loop-mine-preserved-then-limit-theirs : goal.loop-mine-preserved-then-limit-theirs
loop-mine-preserved-then-limit-theirs c = record {
  own = c.loop-mine.invariant.own;
  other = front-line _ _ _ c.in-Some-split_last.ensures.cases.0 c.loop-mine.invariant.other;
  meet = λ n h. c.loop-mine.invariant.meet n
      (meet-swap _ _ _ n (step-past _ _ _ _ _ n c.in-Some-split_last.ensures.cases.0 c.loop-mine.invariant.other c.if-limit-theirs.true (meet-swap _ _ _ n h)));
}

pub returns-then-mine-theirs : goal.returns-then-mine-theirs
returns-then-mine-theirs c =
    c.loop-mine.invariant.meet c.loop-mine.limit
    (step-here _ _ _ _ _ _ _ c.in-Some.ensures.cases.0 c.in-Some-split_last.ensures.cases.0 c.loop-mine.invariant.own c.loop-mine.invariant.other c.if-mine-theirs.true c.if-limit-mine.false c.if-limit-theirs.false)

pub loop-mine-preserved-then-theirs-mine : goal.loop-mine-preserved-then-theirs-mine
loop-mine-preserved-then-theirs-mine c = record {
  own = front-line _ _ _ c.in-Some.ensures.cases.0 c.loop-mine.invariant.own;
  other = c.loop-mine.invariant.other;
  meet = λ n h. c.loop-mine.invariant.meet n
      (step-apart _ _ _ _ _ _ _ n c.in-Some.ensures.cases.0 c.in-Some-split_last.ensures.cases.0 c.loop-mine.invariant.own c.loop-mine.invariant.other c.if-theirs-mine.true (omega arith) h);
}

pub loop-mine-preserved : goal.loop-mine-preserved
loop-mine-preserved c = record {
  own = c.loop-mine.invariant.own;
  other = front-line _ _ _ c.in-Some-split_last.ensures.cases.0 c.loop-mine.invariant.other;
  meet = λ n h. c.loop-mine.invariant.meet n
      (meet-swap _ _ _ n (step-apart _ _ _ _ _ _ _ n c.in-Some-split_last.ensures.cases.0 c.in-Some.ensures.cases.0 c.loop-mine.invariant.other c.loop-mine.invariant.own (omega arith) (omega arith) (meet-swap _ _ _ n h)));
}

pub returns : goal.returns
returns c = c.loop-mine.invariant.meet 0 (step-none c.loop-mine.own.now c.loop-mine.other.now c.loop-mine.limit c.in_default.ensures.cases)
