use Rattle.std.proofs.Common.{◌∙◌, ap, arith, take, nat_le, w32}
use Rattle.std.specs.Prelude.{count_ones, count_by}
use Rattle.std.proofs.lemmas.List.{take_all, length-take-le}
use Rattle.std.proofs.lemmas.Simd.{bitmask_splat, ones-mask_l}
use Rattle.lane_scan.proofs.lanes.le_lanes.Goals as goal

pub returns : goal.returns
returns c =
    ap count_ones (bitmask_splat w32 nat_le (take 8 c.args.items.now) 8 c.args.top (length-take-le 8 c.args.items.now (omega arith)) (omega arith))
    ∙ (ones-mask_l (λ item. nat_le item c.args.top) (take 8 c.args.items.now)
    ∙ ap (count_by (λ item. nat_le item c.args.top)) (take_all 8 c.args.items.now (omega arith)))
