use Rattle.std.proofs.Common.{◌/◌, ◌<◌, arith, length}
use Rattle.std.specs.Prelude.{int_lt, ℤ, pos}
use Rattle.std.proofs.lemmas.Int.{ints}
use mir.Syntax.{w64}
use mir.Val.{to_z, of_z}
use Rattle.lane_scan.specs.Count.{count_lt}
use Rattle.sparse_index.proofs.Parted.{half-passes, half-fails, parted-back, parted-front}
use Rattle.sparse_index.proofs.halving.count_before.Goals as goal

pub loop-rest-preserved-then-back-top : goal.loop-rest-preserved-then-back-top
loop-rest-preserved-then-back-top c =
    let test = λ (item : ℤ). int_lt item (to_z w64 (of_z w64 c.args.top)) in
    let rest = c.loop-rest.rest.now in
    let half = length rest / 2 in
    let inside : half < length rest = omega (arith, c.loop-rest-test.true) in
    record {
      parted = parted-back test rest c.split_at.result.1.now half (omega (arith, inside)) c.loop-rest.invariant.parted c.split_at.ensures.back;
      count = half-passes test rest c.split_at.result.0.now c.split_at.result.1.now half c.loop-rest.passed (count_lt c.args.column.now (to_z w64 (of_z w64 c.args.top))) (pos 0) inside c.loop-rest.invariant.parted c.split_at.ensures.front c.split_at.ensures.back (grind (arith, ints, c.if-back-top.true)) c.loop-rest.invariant.count;
      within = omega (arith, c.split_at.ensures.front_len, c.split_at.ensures.back_len, c.loop-rest.invariant.within);
    }

pub loop-rest-preserved : goal.loop-rest-preserved
loop-rest-preserved c =
    let test = λ (item : ℤ). int_lt item (to_z w64 (of_z w64 c.args.top)) in
    let rest = c.loop-rest.rest.now in
    let half = length rest / 2 in
    let inside : half < length rest = omega (arith, c.loop-rest-test.true) in
    record {
      parted = parted-front test rest c.split_at.result.0.now half (omega (arith, inside)) c.loop-rest.invariant.parted c.split_at.ensures.front;
      count = half-fails test rest c.split_at.result.0.now c.split_at.result.1.now half c.loop-rest.passed (count_lt c.args.column.now (to_z w64 (of_z w64 c.args.top))) (pos 0) inside c.loop-rest.invariant.parted c.split_at.ensures.front c.split_at.ensures.back (grind (arith, ints, c.if-back-top.false)) c.loop-rest.invariant.count;
      within = omega (arith, c.split_at.ensures.front_len, c.split_at.ensures.back_len, c.loop-rest.invariant.within);
    }
