use Rattle.std.proofs.Common.{◌≡◌, ◌≤◌, ◌<◌, ◌+◌, ◌^◌, ◌==◌, ◌∙◌, ap, sym, List, [], ◌∷◌, ◌++◌, length, if◌then◌else◌, arith, rules, to_z, of_z, w64}
use Rattle.std.specs.Int.{int_max}
use Rattle.std.proofs.lemmas.Bool.{eqb-true}
use Rattle.sparse_index.specs.Offsets.{OffsetTable}
use Rattle.segment_file.specs.declared.placed.Placed.{Placed}
use Rattle.segment_file.specs.Growing.{Grown, end_after, size_after}
use Rattle.segment_file.proofs.Laying.{end_up, rises_above, latest_push, pos_of, grows}
use Rattle.segment_file.proofs.growing.Growing.push.Goals as goal

pub mark-requires-clause-from_base : goal.mark-requires-clause-from_base
mark-requires-clause-from_base c =
    let inside = c.self.inside in
    let begins : _ ≡ end_after inside.base inside.batches.items = c.requires.begins ∙ sym (ap (λ (g : Grown). end_after g.base g.batches) c.self.view_is) in
    let last = ap (λ (b : Placed). b.last) c.place-batch.ensures in
    let up = end_up inside.base 0 inside.batches.items c.self.invariant.laid in
    let base = ap (λ (t : OffsetTable). t.base) c.self.invariant.indexed in
    omega (arith, begins, last, up, base)

pub mark-requires-clause-above : goal.mark-requires-clause-above
mark-requires-clause-above c =
    let inside = c.self.inside in
    let begins : _ ≡ end_after inside.base inside.batches.items = c.requires.begins ∙ sym (ap (λ (g : Grown). end_after g.base g.batches) c.self.view_is) in
    let last = ap (λ (b : Placed). b.last) c.place-batch.ensures in
    let size : c.size_of-size.result ≡ size_after 0 inside.batches.items = c.size_of-size.ensures ∙ ap (size_after 0) c.as_slice.ensures.value in
    let up : end_after inside.base inside.batches.items ≤ c.place-batch.result.last = omega (arith, begins, last) in
    rw size (rises_above inside.base inside.interval c.place-batch.result.last inside.batches.items inside.index c.self.invariant.laid c.self.invariant.indexed up)

pub invariant_of-self-2 : goal.invariant_of-self-2
invariant_of-self-2 c =
    let inside = c.self.inside in
    let batches = inside.batches.items in
    let begins : _ ≡ end_after inside.base batches = c.requires.begins ∙ sym (ap (λ (g : Grown). end_after g.base g.batches) c.self.view_is) in
    let base : c.args.self.now.base ≡ inside.base = sym (ap (λ (g : Grown). g.base) c.self.view_is) in
    let last = ap (λ (b : Placed). b.last) c.place-batch.ensures in
    let to = ap (λ (b : Placed). b.to) c.place-batch.ensures in
    let size : c.size_of-size.result ≡ size_after 0 batches = c.size_of-size.ensures ∙ ap (size_after 0) c.as_slice.ensures.value in
    let now : size_after 0 c.args.self.now.batches ≡ size_after 0 batches = sym (ap (λ (g : Grown). size_after 0 g.batches) c.self.view_is) in
    let up : end_after inside.base batches ≤ c.place-batch.result.last = omega (arith, begins, last) in
    let near : c.place-batch.result.last < inside.base + 2 ^ 31 = omega (arith, c.requires.near, last, base) in
    let some : size_after 0 batches < c.place-batch.result.to = omega (arith, to, size) in
    let small : c.place-batch.result.to < 2 ^ 31 = omega (arith, to, size, now, c.requires.small) in
    let items = c.push_reserved.ensures.items ∙ ap (λ (bs : List Placed). bs ++ c.place-batch.result ∷ []) c.in_ok-reserve.ensures.items in
    let out : to_z w64 (of_z w64 c.later-latest.result) ≡ c.later-latest.result = search rules in
    let own : to_z w64 (of_z w64 c.place-batch.result.max_ts) ≡ c.place-batch.result.max_ts = search rules in
    let was : to_z w64 (of_z w64 inside.latest) ≡ inside.latest = search rules in
    let first : c.is_empty.result ≡ (length batches == 0) = c.is_empty.ensures ∙ ap (λ (bs : List Placed). length bs == 0) c.as_slice-2.ensures.value in
    let top =
    out ∙ (c.later-latest.ensures ∙ (ap (λ z. if c.is_empty.result then z else int_max (to_z w64 (of_z w64 inside.latest)) z) own
    ∙ (ap (λ z. if c.is_empty.result then c.place-batch.result.max_ts else int_max z c.place-batch.result.max_ts) (was ∙ c.self.invariant.latest_is)
    ∙ latest_push c.is_empty.result batches c.place-batch.result (λ t. eqb-true (length batches) 0 (sym first ∙ t)) (λ t. pos_of (length batches) (sym first ∙ t))))) in
    rw items (grows inside.base inside.interval batches c.place-batch.result inside.index c.mark.new.index inside.latest _ c.self.invariant up near some small (rw size at c.in_ok-mark.ensures.ok) top)
