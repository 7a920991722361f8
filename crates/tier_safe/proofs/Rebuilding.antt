-- Each change leaves what a rebuild leaves out covered.
use Rattle.std.proofs.Common.{◌≡◌, inl, inr, ◌∙◌, sym, ap, subst, ℕ, ◌+◌, ◌-◌, ◌≤◌, true, List, [], ◌∷◌, ◌++◌, Option, Some, None, slice_get, slice_set, arith}
use mathlib.Core.List.{IsPrefix}
use Rattle.tier_base.specs.declared.object_key.ObjectKey.{ObjectKey}
use Rattle.segment_meta.specs.declared.note.Note.{Note}
use Rattle.log_terms.specs.Line.{epoch_at, epoch_holding}
use Rattle.log_terms.proofs.Lists.{get-set, prefix_self, prefix_more}
use Rattle.plain_log.specs.declared.state.State.{State as Plain}
use Rattle.plain_log.specs.declared.state.Path.{Path}
use Rattle.plain_log.proofs.Wider.{has_wider}
use Rattle.log_terms.proofs.Lists.{prefix_trans}
use Rattle.remote_view.specs.Fold.{EntriesSeen, fold}
use Rattle.copy_task.specs.Copying.{Copied, keys as copy_keys}
use Rattle.copy_task.specs.declared.turn.CopyStep.TheVariants as copying
use Rattle.tier_safe.specs.Scene.{Scene, BrokerTierView, Rebuild, TierTask, Copies, Rebuilds}
use Rattle.tier_safe.specs.Changes.{Move, Leaves, Overtakes, ChoosesExpired, Wants, Refreshes, Lines, Asks, Finds, Skips, Reads, moved, Telling, CopyStarts, CopyEnds, ExpiryStarts, ExpiryEnds, note_for, after_telling, Storing, Puts, Undoes, Deletes, after_storing, undone, Change, Steps, Moves, Chooses, Tells, Stores, Sees, Caches, Drops, effect}
use Rattle.tier_safe.specs.Lineage.{CoversLog}
use Rattle.tier_safe.specs.Starts.{RebuildStands, RebuildsStand}
use Rattle.tier_safe.specs.Safe.{TierSafe}
use Rattle.tier_safe.specs.Moves.{MayMove, MayWant, MayRefresh, MayLine}
use Rattle.tier_safe.specs.May.{MayAlter}
use Rattle.tier_safe.proofs.Steps.{StepGoes}
use Rattle.tier_safe.proofs.Basics.{one_some}
use Rattle.tier_safe.proofs.Deletions.{deletions_kept}
use Rattle.tier_safe.proofs.IdsLaw.{followed}
use Rattle.tier_safe.proofs.Covering.{log_goes, holding_same, covers_same}

-- an actor's state by its task

abbrev pub RebuildTask : List Path → List Note → ℕ → List BrokerTierView → TierTask → Type 0
RebuildTask paths notes start tier_views (Rebuilds rebuild) = RebuildStands paths notes start tier_views rebuild
RebuildTask paths notes start tier_views other = Unit {0}

rebuilds_set : (paths : List Path) (notes : List Note) (start : ℕ) (tier_views : List BrokerTierView) (desk : List TierTask) (a : ℕ) (w : TierTask) → RebuildTask paths notes start tier_views w
    → RebuildsStand paths notes start tier_views desk → RebuildsStand paths notes start tier_views (slice_set desk a w)
rebuilds_set paths notes start tier_views desk a w own h = λ k rebuild at. elim (get-set desk a w k (Rebuilds rebuild) at) [
  | inl here ↦ subst (λ (v : TierTask). RebuildTask paths notes start tier_views v) (sym here.1) own
  | inr there ↦ h k rebuild there.1
]

-- moves

wanted : (a : ℕ) (rebuild : Rebuild) (c : Scene) (p : Plain) → MayWant a rebuild c p → TierSafe c p → RebuildStands p.paths c.notes p.registry.start c.tier_views rebuild
wanted a rebuild c p m h = record {
  front = m.front;
  begins = (m.has.0, m.has.1, prefix_trans m.front m.x.log m.has.0 m.begins m.has.2);
  ends = m.ends;
  above = m.above;
  covered = λ o low high.
      (let old = h.covered m.leader m.tier_view m.x m.tier_view_is m.broker_is o low (omega (arith, high, m.start)) in
      covers_same (fold c.notes) m.x.log m.front o (sym (holding_same 0 m.front m.x.log o m.begins (omega arith) (omega (arith, high, m.ends)))) old);
  seen = λ tier_view at yes below. absurd (cc (yes, m.unread.0));
  line = λ line is. absurd (cc (is, m.unread.1));
}

refreshed : (a : ℕ) (rebuild : Rebuild) (c : Scene) (p : Plain) → MayRefresh a rebuild c → TierSafe c p
    → RebuildStands p.paths c.notes p.registry.start c.tier_views (record rebuild { refreshed = true })
refreshed a rebuild c p m h =
    let r = h.rebuilds a rebuild m.actor_state in
    record {
      front = r.front;
      begins = r.begins;
      ends = r.ends;
      above = r.above;
      covered = r.covered;
      seen = λ tier_view at yes below. (let above = r.above in
          subst (λ (s : EntriesSeen). CoversLog s.entries r.front (rebuild.wanted - 1)) (sym (m.all tier_view at)) (r.covered (rebuild.wanted - 1) (omega (arith, below)) (omega (arith, above))));
      line = r.line;
    }

lined : (a : ℕ) (rebuild : Rebuild) (line : List (ℕ × ℕ)) (c : Scene) (p : Plain) → MayLine a rebuild line c p → TierSafe c p
    → RebuildStands p.paths c.notes p.registry.start c.tier_views (record rebuild { line = Some line })
lined a rebuild line c p m h =
    let r = h.rebuilds a rebuild m.actor_state in
    let log = one_some _ r.begins.0 m.log r.begins.1 m.path in
    let front : IsPrefix r.front m.log = subst (λ (l : List (List ℕ)). IsPrefix r.front l) log r.begins.2 in
    let ends = r.ends in
    record {
      front = r.front;
      begins = r.begins;
      ends = r.ends;
      above = r.above;
      covered = r.covered;
      seen = r.seen;
      line = λ other is o below. (let same : other ≡ line = cc (is) in
          subst (λ (l : List (ℕ × ℕ)). epoch_at l o ≡ epoch_holding r.front o) (sym same)
          (m.says o below ∙ holding_same 0 r.front m.log o front (omega arith) (omega (arith, below, ends))));
    }

moved_rebuild : (a : ℕ) (move : Move) (c : Scene) (p : Plain) → MayMove a move c p → TierSafe c p → RebuildTask p.paths c.notes p.registry.start c.tier_views (moved move)
moved_rebuild a Leaves c p m h = tt
moved_rebuild a (Overtakes copy) c p m h = tt
moved_rebuild a (ChoosesExpired b expired_segment) c p m h = tt
moved_rebuild a (Wants rebuild) c p m h = wanted a rebuild c p m h
moved_rebuild a (Refreshes rebuild) c p m h = refreshed a rebuild c p m h
moved_rebuild a (Lines rebuild line) c p m h = lined a rebuild line c p m h
moved_rebuild a (Asks sought) c p m h = tt
moved_rebuild a (Finds sought piece) c p m h = tt
moved_rebuild a (Skips sought offset) c p m h = tt
moved_rebuild a (Reads sought from) c p m h = tt

told_rebuild : (paths : List Path) (notes : List Note) (start : ℕ) (tier_views : List BrokerTierView) (telling : Telling) → RebuildTask paths notes start tier_views (after_telling telling)
told_rebuild paths notes start tier_views (CopyStarts copy) = tt
told_rebuild paths notes start tier_views (CopyEnds copy) = tt
told_rebuild paths notes start tier_views (ExpiryStarts expired_segment) = tt
told_rebuild paths notes start tier_views (ExpiryEnds expired_segment) = tt

undone_rebuild : (paths : List Path) (notes : List Note) (start : ℕ) (tier_views : List BrokerTierView) (copy : Copied) (n : ℕ) (next : Option ObjectKey) → RebuildTask paths notes start tier_views (undone copy n next)
undone_rebuild paths notes start tier_views copy n None = tt
undone_rebuild paths notes start tier_views copy n (Some key) = tt

stored_rebuild : (paths : List Path) (notes : List Note) (start : ℕ) (tier_views : List BrokerTierView) (storing : Storing) → RebuildTask paths notes start tier_views (after_storing storing)
stored_rebuild paths notes start tier_views (Puts copy n key) = tt
stored_rebuild paths notes start tier_views (Undoes copy n key) = undone_rebuild paths notes start tier_views copy (n + 1) (slice_get (copy_keys copy) (n + 1))
stored_rebuild paths notes start tier_views (Deletes expired_segment n key) = tt

-- a tier view changes, and what its view covers above the log start offset stays covered
rebuilds_tier_view : (paths : List Path) (notes : List Note) (start : ℕ) (tier_views : List BrokerTierView) (desk : List TierTask) (b : ℕ) (old new : BrokerTierView) → slice_get tier_views b ≡ Some old
    → ((log : List (List ℕ)) (o : ℕ) → start ≤ o → CoversLog old.view.entries log o → CoversLog new.view.entries log o)
    → RebuildsStand paths notes start tier_views desk → RebuildsStand paths notes start (slice_set tier_views b new) desk
rebuilds_tier_view paths notes start tier_views desk b old new at go h = λ a rebuild actor_state.
    (let r = h a rebuild actor_state in
    record {
      front = r.front;
      begins = r.begins;
      ends = r.ends;
      above = r.above;
      covered = r.covered;
      seen = λ tier_view is yes below. elim (get-set tier_views b new rebuild.broker tier_view is) [
        | inl here ↦ subst (λ (s : BrokerTierView). CoversLog s.view.entries r.front (rebuild.wanted - 1)) (sym here.1)
            (go r.front (rebuild.wanted - 1) (omega (arith, below)) (r.seen old (ap (slice_get tier_views) here.0 ∙ at) yes below))
        | inr there ↦ r.seen tier_view there.1 yes below
      ];
      line = r.line;
    })

pub rebuilds_kept : (change : Change) (c : Scene) (p : Plain) → MayAlter change c p → TierSafe c p
    → RebuildsStand p.paths (effect change c).notes p.registry.start (effect change c).tier_views (effect change c).desk
rebuilds_kept (Steps tier_views) c p m h = absurd m
rebuilds_kept (Moves a move) c p m h = rebuilds_set p.paths c.notes p.registry.start c.tier_views c.desk a (moved move) (moved_rebuild a move c p m h) h.rebuilds
rebuilds_kept (Chooses a b tier_view copy) c p m h =
    rebuilds_set p.paths c.notes p.registry.start (slice_set c.tier_views b (record tier_view { next = tier_view.next + 1 })) c.desk a (Copies copy copying.Start) tt
    (rebuilds_tier_view p.paths c.notes p.registry.start c.tier_views c.desk b tier_view (record tier_view { next = tier_view.next + 1 }) m.tier_view_is (λ log o low k. k) h.rebuilds)
rebuilds_kept (Tells a telling origin) c p m h =
    let ended = (deletions_kept (Tells a telling origin) c p m h).ended in
    let notes = c.notes ++ note_for telling origin ∷ [] in
    let first = prefix_more c.notes c.notes (note_for telling origin ∷ []) (prefix_self c.notes) in
    rebuilds_set p.paths notes p.registry.start c.tier_views c.desk a (after_telling telling) (told_rebuild p.paths notes p.registry.start c.tier_views telling)
    (λ k rebuild actor_state. (let r = h.rebuilds k rebuild actor_state in
    record {
      front = r.front;
      begins = r.begins;
      ends = r.ends;
      above = r.above;
      covered = λ o low high. log_goes notes c.notes notes p.registry.start r.front o ended first (prefix_self notes) first low (r.covered o low high);
      seen = r.seen;
      line = r.line;
    }))
rebuilds_kept (Stores a storing objects) c p m h =
    rebuilds_set p.paths c.notes p.registry.start c.tier_views c.desk a (after_storing storing) (stored_rebuild p.paths c.notes p.registry.start c.tier_views storing) h.rebuilds
rebuilds_kept (Sees b tier_view view) c p m h =
    rebuilds_tier_view p.paths c.notes p.registry.start c.tier_views c.desk b tier_view (record tier_view { view = view }) m.tier_view_is
    (λ log o low k.
    subst (λ (s : EntriesSeen). CoversLog s.entries log o) (sym m.new)
    (log_goes c.notes m.before m.more p.registry.start log o h.deletions.ended m.grows m.begins (prefix_trans m.before m.more c.notes m.grows m.begins) low
    (subst (λ (s : EntriesSeen). CoversLog s.entries log o) m.old k)))
    h.rebuilds
rebuilds_kept (Caches b tier_view cache) c p m h =
    rebuilds_tier_view p.paths c.notes p.registry.start c.tier_views c.desk b tier_view (record tier_view { cache = cache }) m.tier_view_is (λ log o low k. k) h.rebuilds
rebuilds_kept (Drops b tier_view start dropping) c p m h =
    rebuilds_tier_view p.paths c.notes p.registry.start c.tier_views c.desk b tier_view (record tier_view { start = start }) m.tier_view_is (λ log o low k. k) h.rebuilds

-- so does a step
pub rebuilds_stepped : (tier_views : List BrokerTierView) (c : Scene) (p q : Plain) → StepGoes tier_views c p q → TierSafe c p → RebuildsStand q.paths c.notes q.registry.start tier_views c.desk
rebuilds_stepped tier_views c p q m h = λ a rebuild actor_state.
    (let r = h.rebuilds a rebuild actor_state in
    record {
      front = r.front;
      begins = has_wider p.paths q.paths rebuild.epoch r.front m.grows.paths r.begins;
      ends = r.ends;
      above = r.above;
      covered = λ o low high. r.covered o (omega (arith, low, m.grows.start)) high;
      seen = λ tier_view at yes below. (let f = followed tier_views c p q rebuild.broker tier_view m h at in
          subst (λ (s : EntriesSeen). CoversLog s.entries r.front (rebuild.wanted - 1)) (sym f.goes.view) (r.seen f.old f.old_is yes (omega (arith, below, m.grows.start))));
      line = r.line;
    })
