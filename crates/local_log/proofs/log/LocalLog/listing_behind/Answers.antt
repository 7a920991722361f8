use Rattle.std.proofs.Common.{◌≡◌, ◌∙◌, ℕ, List, drop, sym, ap, subst}
use Rattle.segment_file.specs.Growing.{Grown}
use Rattle.local_log.specs.Log.{Log}
use Rattle.local_log.specs.Listing.{AreSegmentsOf, front_to}
use Rattle.local_log.specs.Cutting.{closed_by, open_by}
use Rattle.local_log.specs.Dropping.{rest_of, start_behind, IsFirstFlushed}
use Rattle.local_log.proofs.Dropped.{first_end, drop_one, front_are, rest_are}
use Rattle.local_log.proofs.log.LocalLog.listing_behind.Goals as goal

pub listing_to-requires-clause-segments : goal.listing_to-requires-clause-segments
listing_to-requires-clause-segments g c =
    let s = c.self.inside in
    let some : IsFirstFlushed s.flushed_end s.closed.items = subst (λ (l : Log g.row.D.Denot). IsFirstFlushed l.flushed_end l.closed) (sym c.self.view_is) c.requires.first in
    let start = start_behind s.local_start s.closed.items in
    let end_is : c.end-start.result ≡ start = c.end-start.ensures ∙ first_end s.local_start s.flushed_end s.closed.items c.index.result.now some c.index.ensures in
    let rest_is : c.split_at.result.1.now ≡ rest_of s.closed.items = c.split_at.ensures.back ∙ ap (λ (gs : List Grown). drop 1 gs) c.deref.ensures.value ∙ drop_one s.closed.items in
    subst (λ (n : ℕ). AreSegmentsOf n (closed_by s.flushed_end c.split_at.result.1.now) (front_to s.flushed_end (open_by s.flushed_end c.split_at.result.1.now s.active))) (sym end_is)
    (subst (λ (gs : List Grown). AreSegmentsOf start (closed_by s.flushed_end gs) (front_to s.flushed_end (open_by s.flushed_end gs s.active))) (sym rest_is)
    (front_are s.local_start s.flushed_end s.closed.items s.active some c.self.invariant.segments c.self.invariant.flushed_end_within))

pub listing_to-requires-clause-whole : goal.listing_to-requires-clause-whole
listing_to-requires-clause-whole g c =
    let s = c.self.inside in
    let some : IsFirstFlushed s.flushed_end s.closed.items = subst (λ (l : Log g.row.D.Denot). IsFirstFlushed l.flushed_end l.closed) (sym c.self.view_is) c.requires.first in
    let start = start_behind s.local_start s.closed.items in
    let end_is : c.end-start.result ≡ start = c.end-start.ensures ∙ first_end s.local_start s.flushed_end s.closed.items c.index.result.now some c.index.ensures in
    let rest_is : c.split_at.result.1.now ≡ rest_of s.closed.items = c.split_at.ensures.back ∙ ap (λ (gs : List Grown). drop 1 gs) c.deref.ensures.value ∙ drop_one s.closed.items in
    subst (λ (n : ℕ). AreSegmentsOf n c.split_at.result.1.now s.active) (sym end_is)
    (subst (λ (gs : List Grown). AreSegmentsOf start gs s.active) (sym rest_is)
    (rest_are s.local_start s.flushed_end s.closed.items s.active some c.self.invariant.segments))
