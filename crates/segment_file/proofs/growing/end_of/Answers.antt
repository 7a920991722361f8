use Rattle.std.proofs.Common.{◌≡◌, ◌+◌, ◌-◌, sym, arith, length, Some}
use Rattle.std.specs.List.{slice_get}
use Rattle.segment_file.specs.Growing.{end_after}
use Rattle.segment_file.proofs.Laying.{last_end}
use Rattle.segment_file.proofs.growing.end_of.Goals as goal

pub overflow_add-result : goal.overflow_add-result
overflow_add-result c =
    let there : slice_get c.args.batches.now (length c.args.batches.now - 1) ≡ Some c.in-Some.batch.now = sym (c.in-Some.ensures.value) in
    let is : end_after c.args.base c.args.batches.now ≡ c.in-Some.batch.now.last + 1 = last_end c.args.base c.args.batches.now c.in-Some.batch.now there in
    omega (arith, is, c.requires)

pub returns-in-Some : goal.returns-in-Some
returns-in-Some c = sym (last_end c.args.base c.args.batches.now c.in-Some.batch.now (sym (c.in-Some.ensures.value)))
