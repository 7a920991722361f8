use Rattle.std.proofs.Common.{◌/◌, ◌<◌, ℕ, arith, nat_le, length}
use Rattle.std.proofs.lemmas.Bool.{le-leb, lt-leb}
use Rattle.lane_scan.specs.Count.{count_le}
use Rattle.sparse_index.proofs.Parted.{half-passes, half-fails, parted-back, parted-front}
use Rattle.sparse_index.proofs.halving.count_up_to.Goals as goal

pub loop-rest-preserved-then-back-top : goal.loop-rest-preserved-then-back-top
loop-rest-preserved-then-back-top c =
    let test = λ (item : ℕ). nat_le item c.args.top in
    let rest = c.loop-rest.rest.now in
    let half = length rest / 2 in
    let inside : half < length rest = omega (arith, c.loop-rest-test.true) in
    record {
      parted = parted-back test rest c.split_at.result.1.now half (omega (arith, inside)) c.loop-rest.invariant.parted c.split_at.ensures.back;
      count = half-passes test rest c.split_at.result.0.now c.split_at.result.1.now half c.loop-rest.passed (count_le c.args.column.now c.args.top) 0 inside c.loop-rest.invariant.parted c.split_at.ensures.front c.split_at.ensures.back (le-leb _ _ c.if-back-top.true) c.loop-rest.invariant.count;
      within = omega (arith, c.split_at.ensures.front_len, c.split_at.ensures.back_len, c.loop-rest.invariant.within);
    }

pub loop-rest-preserved : goal.loop-rest-preserved
loop-rest-preserved c =
    let test = λ (item : ℕ). nat_le item c.args.top in
    let rest = c.loop-rest.rest.now in
    let half = length rest / 2 in
    let inside : half < length rest = omega (arith, c.loop-rest-test.true) in
    record {
      parted = parted-front test rest c.split_at.result.0.now half (omega (arith, inside)) c.loop-rest.invariant.parted c.split_at.ensures.front;
      count = half-fails test rest c.split_at.result.0.now c.split_at.result.1.now half c.loop-rest.passed (count_le c.args.column.now c.args.top) 0 inside c.loop-rest.invariant.parted c.split_at.ensures.front c.split_at.ensures.back (lt-leb _ _ c.if-back-top.false) c.loop-rest.invariant.count;
      within = omega (arith, c.split_at.ensures.front_len, c.split_at.ensures.back_len, c.loop-rest.invariant.within);
    }
