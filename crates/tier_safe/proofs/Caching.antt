-- Each change leaves indexes that are kept those of their segments.
use Rattle.std.proofs.Common.{◌≡◌, inl, inr, ◌∙◌, ap, subst, refl, ℕ, ◌+◌, ◌≤◌, List, [], ◌∷◌, ◌++◌, slice_set, arith}
use mathlib.Core.List.{IsPrefix}
use Rattle.tier_base.specs.declared.names.SegmentId.{SegmentId}
use Rattle.tier_base.specs.declared.plain.State.{State}
use Rattle.tier_base.specs.declared.plain.State.TheVariants.{CopyStarted, CopyFinished, DeleteStarted, DeleteFinished}
use Rattle.tier_base.specs.Told.{In}
use Rattle.sparse_index.specs.Offsets.{OffsetTable}
use Rattle.segment_meta.specs.declared.note.Entry.{Entry}
use Rattle.segment_meta.specs.declared.note.Note.{Note}
use Rattle.segment_meta.specs.Spelling.{state_code}
use Rattle.log_terms.proofs.Lists.{get-set, prefix_self, prefix_more, prefix_trans}
use Rattle.plain_log.specs.declared.state.State.{State as Plain}
use Rattle.plain_log.specs.declared.state.Path.{Path}
use Rattle.remote_view.specs.Fold.{entry_of, fold}
use Rattle.tier_safe.specs.Scene.{Scene, BrokerTierView}
use Rattle.tier_safe.specs.Changes.{note_for, Change, Steps, Moves, Chooses, Tells, Stores, Sees, Caches, Drops, effect}
use Rattle.tier_safe.specs.Fetches.{IsIndexOf, CachedStands, CachesStand}
use Rattle.tier_safe.specs.Safe.{TierSafe}
use Rattle.tier_safe.specs.May.{MayAlter}
use Rattle.tier_safe.proofs.Steps.{StepGoes}
use Rattle.tier_safe.proofs.Entries.{prefix_goes}
use Rattle.tier_safe.proofs.Basics.{one_some}
use Rattle.tier_safe.proofs.Lineage.{index_grows}
use Rattle.tier_safe.proofs.Fetching.{index_follows}
use Rattle.tier_safe.proofs.IdsLaw.{followed}

-- a state between two that are finished is
between : (s : State) → state_code CopyFinished ≤ state_code s → state_code s ≤ state_code CopyFinished → s ≡ CopyFinished
between CopyStarted low high = absurd (omega (arith, low))
between CopyFinished low high = refl
between DeleteStarted low high = absurd (omega (arith, high))
between DeleteFinished low high = absurd (omega (arith, high))

cached_told : (paths : List Path) (notes more : List Note) (id : SegmentId) (index : OffsetTable) → IsPrefix notes more → CachedStands paths notes id index → CachedStands paths more id index
cached_told paths notes more id index pre k = record {
  before = k.before;
  begins = prefix_trans k.before notes more k.begins pre;
  entry = k.entry;
  there = k.there;
  finished = k.finished;
  is = λ entry at done.
      (let y = prefix_goes k.before notes id k.entry k.begins k.there in
      let z = prefix_goes notes more id y.0 pre y.1 in
      let same : z.0 ≡ entry = one_some (entry_of id (fold more)) z.0 entry z.1 at in
      let low : state_code CopyFinished ≤ state_code y.0.state = subst (λ (s : State). state_code s ≤ state_code y.0.state) k.finished y.2.state in
      let high : state_code y.0.state ≤ state_code CopyFinished = subst (λ (s : State). state_code y.0.state ≤ state_code s) (ap (λ (e : Entry). e.state) same ∙ done) z.2.state in
      subst (λ (e : Entry). IsIndexOf paths e index) same (index_follows paths y.0 z.0 index z.2 (k.is y.0 y.1 (between y.0.state low high))));
}

-- a tier view, and what it keeps
caches_tier_view : (paths : List Path) (notes : List Note) (tier_views : List BrokerTierView) (b : ℕ) (new : BrokerTierView)
    → ((id : SegmentId) (index : OffsetTable) → In (id, index) new.cache → CachedStands paths notes id index) → CachesStand paths notes tier_views → CachesStand paths notes (slice_set tier_views b new)
caches_tier_view paths notes tier_views b new own h = λ d tier_view at id index has. elim (get-set tier_views b new d tier_view at) [
  | inl here ↦ own id index (subst (λ (s : BrokerTierView). In (id, index) s.cache) here.1 has)
  | inr there ↦ h d tier_view there.1 id index has
]

pub caches_kept : (change : Change) (c : Scene) (p : Plain) → MayAlter change c p → TierSafe c p → CachesStand p.paths (effect change c).notes (effect change c).tier_views
caches_kept (Steps tier_views) c p m h = absurd m
caches_kept (Moves a move) c p m h = h.caches
caches_kept (Chooses a b tier_view copy) c p m h = caches_tier_view p.paths c.notes c.tier_views b (record tier_view { next = tier_view.next + 1 }) (h.caches b tier_view m.tier_view_is) h.caches
caches_kept (Tells a telling origin) c p m h = λ b tier_view at id index has.
    cached_told p.paths c.notes (c.notes ++ note_for telling origin ∷ []) id index (prefix_more c.notes c.notes (note_for telling origin ∷ []) (prefix_self c.notes)) (h.caches b tier_view at id index has)
caches_kept (Stores a storing objects) c p m h = h.caches
caches_kept (Sees b tier_view view) c p m h = caches_tier_view p.paths c.notes c.tier_views b (record tier_view { view = view }) (h.caches b tier_view m.tier_view_is) h.caches
caches_kept (Caches b tier_view cache) c p m h = caches_tier_view p.paths c.notes c.tier_views b (record tier_view { cache = cache })
    (λ id index has. elim (m.are id index has) [
      | inl old ↦ h.caches b tier_view m.tier_view_is id index old
      | inr new ↦ new
    ]) h.caches
caches_kept (Drops b tier_view start dropping) c p m h = caches_tier_view p.paths c.notes c.tier_views b (record tier_view { start = start }) (h.caches b tier_view m.tier_view_is) h.caches

-- so does a step
pub caches_stepped : (tier_views : List BrokerTierView) (c : Scene) (p q : Plain) → StepGoes tier_views c p q → TierSafe c p → CachesStand q.paths c.notes tier_views
caches_stepped tier_views c p q m h = λ b tier_view at id index has.
    (let f = followed tier_views c p q b tier_view m h at in
    let k = h.caches b f.old f.old_is id index (subst (λ (l : List (SegmentId × OffsetTable)). In (id, index) l) f.goes.cache has) in
    record {
      before = k.before;
      begins = k.begins;
      entry = k.entry;
      there = k.there;
      finished = k.finished;
      is = λ entry there done. index_grows p.paths q.paths entry index m.grows.paths (k.is entry there done);
    })
