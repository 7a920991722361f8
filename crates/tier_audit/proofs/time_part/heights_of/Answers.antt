use Rattle.std.proofs.Common.{ap, sym, subst, ℕ, ◌++◌, drop, get_or, ◌+◌, ℤ, arith, FitsSigned}
use Rattle.std.specs.Int.{w64}
use Rattle.std.specs.List.{AllByRecursion}
use Rattle.std.specs.Prelude.{pos, negsuc}
use Rattle.std.proofs.lemmas.List.{drop_more}
use Rattle.segment_file.specs.declared.placed.Placed.{Placed}
use Rattle.tier_audit.specs.Whole.{heights_of}
use Rattle.tier_audit.proofs.Marks.{AreNear, placed_near, near_one}
use Rattle.tier_audit.proofs.time_part.heights_of.Goals as goal

pub loop-batch-init : goal.loop-batch-init
loop-batch-init c = record {
  heights = ap (λ xs. xs ++ heights_of c.args.base (negsuc 0) c.args.batches.now) c.new-heights.ensures.items;
  fit = subst (AllByRecursion (λ (height : ℤ × ℕ). FitsSigned w64 height.0)) (sym c.new-heights.ensures.items) tt;
  near = (c.args.base, 0, placed_near c.args.base c.args.batches.now c.requires);
}

pub overflow_cast-batch : goal.overflow_cast-batch
overflow_cast-batch c =
    let batches = c.args.batches.now in
    let i = c.loop-batch.batch-index in
    let none : Placed = record { last = 0; max_ts = pos 0; to = 0 } in
    let near = c.loop-batch.invariant.near in
    let one = near_one c.args.base near.0 near.1 (get_or batches i none) (drop (i + 1) batches) (subst (AreNear c.args.base near.0 near.1) (drop_more batches i none c.loop-batch-test.true) near.2) in
    omega (arith, one.near, one.from)
