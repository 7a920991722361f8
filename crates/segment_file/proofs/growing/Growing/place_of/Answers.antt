use Rattle.std.proofs.Common.{◌≡◌, ◌∙◌, ap, arith, take}
use Rattle.segment_file.specs.Growing.{end_after, ending_by}
use Rattle.segment_file.proofs.Searching.{ending_kept}
use Rattle.segment_file.proofs.growing.Growing.place_of.Goals as goal

pub end_of-requires : goal.end_of-requires
end_of-requires c =
    let inside = c.self.inside in
    let batches = inside.batches.items in
    let i = c.self.invariant in
    let front : c.split_at.result.0.now ≡ ending_by c.args.offset batches =
    c.split_at.ensures.front ∙ (ap (take c.count_ending.result) c.as_slice.ensures.value ∙ rw c.as_slice-2.ensures.value at c.count_ending.ensures.front) in
    let kept = ending_kept inside.base c.args.offset batches i.laid in
    let end : end_after inside.base c.split_at.result.0.now ≡ end_after inside.base (ending_by c.args.offset batches) = ap (end_after inside.base) front in
    omega (arith, end, kept.end, i.near, i.base_fits)
