use Rattle.std.proofs.Common.{◌≡◌, ◌∙◌, ap, arith, ℕ, drop}
use Rattle.segment_file.specs.Growing.{end_after, size_after, ending_by}
use Rattle.segment_file.proofs.Searching.{ending_kept}
use Rattle.segment_file.proofs.Fitting.{behind}
use Rattle.segment_file.proofs.growing.Growing.reach.Goals as goal

pub end_of-requires : goal.end_of-requires
end_of-requires c =
    let inside = c.self.inside in
    let batches = inside.batches.items in
    let i = c.self.invariant in
    let front : c.split_at.result.0.now ≡ ending_by c.args.offset batches =
    c.split_at.ensures.front ∙ (c.count_ending.ensures.front ∙ ap (ending_by c.args.offset) c.as_slice-batches.ensures.value) in
    let kept = ending_kept inside.base c.args.offset batches i.laid in
    let end : end_after inside.base c.split_at.result.0.now ≡ end_after inside.base (ending_by c.args.offset batches) = ap (end_after inside.base) front in
    omega (arith, end, kept.end, i.near, i.base_fits)

pub reach_from-requires-clause-laid : goal.reach_from-requires-clause-laid
reach_from-requires-clause-laid c =
    let inside = c.self.inside in
    let batches = inside.batches.items in
    let front : c.split_at.result.0.now ≡ ending_by c.args.offset batches =
    c.split_at.ensures.front ∙ (c.count_ending.ensures.front ∙ ap (ending_by c.args.offset) c.as_slice-batches.ensures.value) in
    let rest : c.split_at.result.1.now ≡ drop c.count_ending.result batches = c.split_at.ensures.back ∙ ap (drop c.count_ending.result) c.as_slice-batches.ensures.value in
    let b = behind inside.base c.args.offset c.count_ending.result batches c.self.invariant.laid (rw c.as_slice-batches.ensures.value at c.count_ending.ensures.front) in
    let end = c.end_of.ensures ∙ ap (end_after inside.base) front in
    let size = c.size_of.ensures ∙ ap (size_after 0) front in
    rw (end, size, rest) b.laid

pub reach_from-requires-clause-near : goal.reach_from-requires-clause-near
reach_from-requires-clause-near c =
    let inside = c.self.inside in
    let batches = inside.batches.items in
    let i = c.self.invariant in
    let front : c.split_at.result.0.now ≡ ending_by c.args.offset batches =
    c.split_at.ensures.front ∙ (c.count_ending.ensures.front ∙ ap (ending_by c.args.offset) c.as_slice-batches.ensures.value) in
    let rest : c.split_at.result.1.now ≡ drop c.count_ending.result batches = c.split_at.ensures.back ∙ ap (drop c.count_ending.result) c.as_slice-batches.ensures.value in
    let b = behind inside.base c.args.offset c.count_ending.result batches i.laid (rw c.as_slice-batches.ensures.value at c.count_ending.ensures.front) in
    let end = c.end_of.ensures ∙ ap (end_after inside.base) front in
    let all = ap (λ (n : ℕ). end_after n c.split_at.result.1.now) end ∙ ap (end_after (end_after inside.base (ending_by c.args.offset batches))) rest in
    omega (arith, all, b.end_is, i.near, i.base_fits)

pub reach_from-requires-clause-small : goal.reach_from-requires-clause-small
reach_from-requires-clause-small c =
    let inside = c.self.inside in
    let batches = inside.batches.items in
    let i = c.self.invariant in
    let front : c.split_at.result.0.now ≡ ending_by c.args.offset batches =
    c.split_at.ensures.front ∙ (c.count_ending.ensures.front ∙ ap (ending_by c.args.offset) c.as_slice-batches.ensures.value) in
    let rest : c.split_at.result.1.now ≡ drop c.count_ending.result batches = c.split_at.ensures.back ∙ ap (drop c.count_ending.result) c.as_slice-batches.ensures.value in
    let b = behind inside.base c.args.offset c.count_ending.result batches i.laid (rw c.as_slice-batches.ensures.value at c.count_ending.ensures.front) in
    let size = c.size_of.ensures ∙ ap (size_after 0) front in
    let all = ap (λ (n : ℕ). size_after n c.split_at.result.1.now) size ∙ ap (size_after (size_after 0 (ending_by c.args.offset batches))) rest in
    omega (arith, all, b.size_is, i.small)
