use Rattle.std.proofs.Common.{ap, subst, ◌++◌, drop, get_or, ◌+◌, arith}
use Rattle.std.specs.Prelude.{pos}
use Rattle.std.proofs.lemmas.List.{drop_more}
use Rattle.segment_file.specs.declared.placed.Placed.{Placed}
use Rattle.tier_audit.specs.Whole.{marks_of}
use Rattle.tier_audit.proofs.Marks.{AreNear, placed_near, near_one}
use Rattle.tier_audit.proofs.index_part.marks_of.Goals as goal

pub loop-batch-init : goal.loop-batch-init
loop-batch-init c = record {
  marks = ap (λ xs. xs ++ marks_of c.args.base 0 c.args.batches.now) c.new-marks.ensures.items;
  near = (c.args.base, placed_near c.args.base c.args.batches.now c.requires);
}

pub overflow_cast-batch : goal.overflow_cast-batch
overflow_cast-batch c =
    let batches = c.args.batches.now in
    let i = c.loop-batch.batch-index in
    let none : Placed = record { last = 0; max_ts = pos 0; to = 0 } in
    let near = c.loop-batch.invariant.near in
    let one = near_one c.args.base near.0 c.loop-batch.at (get_or batches i none) (drop (i + 1) batches) (subst (AreNear c.args.base near.0 c.loop-batch.at) (drop_more batches i none c.loop-batch-test.true) near.1) in
    omega (arith, one.near, one.from)
