use Rattle.std.proofs.Common.{◌∙◌, ◌++◌, ◌∷◌, List, [], length, map, take, ℕ, sym, ap, arith, length-append}
use Rattle.std.proofs.lemmas.List.{map-append}
use Rattle.log_manifest.specs.declared.manifest.Extent.{Extent}
use Rattle.segment_file.specs.Growing.{Grown}
use Rattle.local_log.specs.Stored.{extent_of}
use Rattle.local_log.specs.Listing.{front_to}
use Rattle.local_log.specs.Cutting.{closed_by, open_by}
use Rattle.local_log.proofs.Parting.{closed_front, closed_take}
use Rattle.local_log.proofs.trimming.extents_to.Goals as goal

pub split_at-requires : goal.split_at-requires
split_at-requires c =
    let f = closed_front c.args.end c.args.closed.now in
    omega (arith, c.count_ended.ensures, ap length f.1, length-append (closed_by c.args.end c.args.closed.now) f.0)

pub returns : goal.returns
returns c =
    let closed = c.args.closed.now in
    let last : Grown = front_to c.args.end (open_by c.args.end closed c.args.active.now) in
    let front = c.split_at.ensures.front ∙ ap (λ (i : ℕ). take i closed) c.count_ended.ensures ∙ closed_take c.args.end closed in
    c.in_ok-push.ensures.ok
    ∙ ap (λ (l : List Extent). l ++ c.open_front.result ∷ []) (c.in_ok-list.ensures ∙ ap (λ (l : List Grown). map extent_of l) front)
    ∙ ap (λ (x : Extent). map extent_of (closed_by c.args.end closed) ++ x ∷ []) c.open_front.ensures
    ∙ sym (map-append extent_of (closed_by c.args.end closed) (last ∷ []))
