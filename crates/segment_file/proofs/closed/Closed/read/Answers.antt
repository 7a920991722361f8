use Rattle.std.proofs.Common.{◌≡◌, sym, refl, rules, to_z, of_z, w64}
use Rattle.segment_file.proofs.Gaining.{whole, some_end}
use Rattle.segment_file.proofs.closed.Closed.read.Goals as goal

pub overflow_sub-result : goal.overflow_sub-result
overflow_sub-result c = some_end c.args.base c.as_slice.result.now c.in_ok-front.front c.in_ok-front.ensures.0 c.in_ok-front.ensures.1

pub invariant_of-result : goal.invariant_of-result
invariant_of-result c =
    let ts : to_z w64 (of_z w64 c.in_ok-front.front.max_ts) ≡ c.in_ok-front.front.max_ts = search rules in
    whole c.args.base c.as_slice.result.now c.in_ok-front.front _ c.in_ok-front.ensures.0 c.in_ok-front.ensures.1 c.in_ok-front.ensures.2
    refl refl ts (sym c.as_slice.ensures) refl
