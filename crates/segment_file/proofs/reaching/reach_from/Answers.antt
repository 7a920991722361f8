use Rattle.std.proofs.Common.{◌≡◌, ◌+◌, ◌∷◌, subst, arith, ap}
use Rattle.segment_file.specs.Growing.{AreBatchesLaid, end_after}
use Rattle.segment_file.proofs.Laying.{end_up}
use Rattle.segment_file.proofs.reaching.reach_from.Goals as goal

pub overflow_add-one : goal.overflow_add-one
overflow_add-one c =
    let one = c.in-Some.one.now in
    let others = c.in-Some.others.now in
    let is : c.args.batches.now ≡ one ∷ others = c.in-Some.ensures.cases.0 in
    let laid : AreBatchesLaid c.args.first c.args.at (one ∷ others) = subst (AreBatchesLaid c.args.first c.args.at) is c.requires.laid in
    let end = ap (end_after c.args.first) is in
    let up = end_up (one.last + 1) one.to others laid.2 in
    omega (arith, end, up, c.requires.near)
