use Rattle.std.proofs.Common.{◌≡◌, ◌∙◌, ap, arith, take, rules, to_z, of_z, w64}
use Rattle.sparse_index.specs.Offsets.{cut_to}
use Rattle.segment_file.specs.Growing.{size_after, ending_by, latest_ts}
use Rattle.segment_file.proofs.Searching.{index_cut, ending_kept}
use Rattle.segment_file.proofs.growing.Growing.cut_to.Goals as goal

pub invariant_of-self : goal.invariant_of-self
invariant_of-self c =
    let inside = c.self.inside in
    let batches = inside.batches.items in
    let i = c.self.invariant in
    let front : take c.count_ending-kept.result batches ≡ ending_by c.args.end batches = rw c.as_slice.ensures.value at c.count_ending-kept.ensures.front in
    let items : c.truncate.new.self.items ≡ ending_by c.args.end batches = c.truncate.ensures.items ∙ front in
    let size : c.size_of-size.result ≡ size_after 0 (ending_by c.args.end batches) =
    c.size_of-size.ensures ∙ ap (size_after 0) (c.split_at.ensures.front ∙ (ap (take c.count_ending-kept.result) c.as_slice-2.ensures.value ∙ front)) in
    let kept = ending_kept inside.base c.args.end batches i.laid in
    let index = c.cut_to.ensures ∙ (ap (λ n. cut_to inside.index n) size ∙ (ap (λ t. cut_to t (size_after 0 (ending_by c.args.end batches))) i.indexed ∙ index_cut inside.base inside.interval c.args.end batches i.laid)) in
    let out : to_z w64 (of_z w64 c.latest_in-latest.result) ≡ c.latest_in-latest.result = search rules in
    rw items (record {
      base_fits = i.base_fits;
      laid = kept.laid;
      near = omega (arith, kept.end, i.near);
      small = omega (arith, kept.size, i.small);
      indexed = index;
      latest_is = out ∙ c.latest_in-latest.ensures ∙ ap latest_ts (ap (take c.count_ending-kept.result) c.as_slice-3.ensures.value ∙ front);
    })
