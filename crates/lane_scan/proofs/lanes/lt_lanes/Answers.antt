use Rattle.std.proofs.Common.{rules, ◌∙◌, ap, refl, get_or, pos, arith, ◌∷◌, []}
use Rattle.std.specs.Prelude.{count_ones}
use Rattle.std.proofs.lemmas.Simd.{bitmask_splat, ones-mask_l}
use mir.Syntax.{w64}
use mir.Val.{SFits, of_z}
use Rattle.lane_scan.specs.Count.{count_lt}
use Rattle.lane_scan.proofs.Signed.{is_lane_below, count-lanes, four}
use Rattle.lane_scan.proofs.lanes.lt_lanes.Goals as goal

pub returns : goal.returns
returns c =
    let items = c.args.items.now in
    let a = get_or items 0 (pos 0) in
    let b = get_or items 1 (pos 0) in
    let d = get_or items 2 (pos 0) in
    let e = get_or items 3 (pos 0) in
    let lanes = of_z w64 a ∷ of_z w64 b ∷ of_z w64 d ∷ of_z w64 e ∷ [] in
    let fits-a : SFits w64 a = search rules in
    let fits-b : SFits w64 b = search rules in
    let fits-d : SFits w64 d = search rules in
    let fits-e : SFits w64 e = search rules in
    ap count_ones (bitmask_splat w64 is_lane_below lanes 4 (of_z w64 c.args.top) refl (omega arith))
    ∙ (ones-mask_l (λ lane. is_lane_below lane (of_z w64 c.args.top)) lanes
    ∙ (count-lanes (a ∷ b ∷ d ∷ e ∷ []) c.args.top (fits-a, (fits-b, (fits-d, (fits-e, tt)))) c.ranges.top
    ∙ ap (λ xs. count_lt xs c.args.top) (four items (pos 0) c.requires)))
