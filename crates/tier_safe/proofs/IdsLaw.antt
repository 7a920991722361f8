-- Each change leaves ids chosen once.
use Rattle.std.proofs.Common.{◌≡◌, inl, inr, ◌∙◌, sym, ap, subst, refl, ℕ, ◌+◌, List, Option, Some, None, slice_get, slice_set, arith}
use Rattle.tier_base.specs.declared.names.SegmentId.{SegmentId}
use Rattle.tier_base.proofs.IdFields.{ids_differ}
use Rattle.tier_base.specs.declared.object_key.ObjectKey.{ObjectKey}
use Rattle.segment_meta.specs.declared.note.Entry.{Entry}
use Rattle.object_store.specs.Content.{Objects}
use Rattle.meta_log.specs.declared.event_origin.EventOrigin.{EventOrigin}
use Rattle.log_terms.proofs.Lists.{get-set, look, within}
use Rattle.plain_log.specs.declared.state.State.{State as Plain}
use Rattle.plain_log.specs.declared.state.Broker.{Broker}
use Rattle.copy_task.specs.Copying.{Copied, keys as copy_keys}
use Rattle.copy_task.specs.declared.turn.CopyStep.{CopyStep as CopyNext}
use Rattle.copy_task.specs.declared.turn.CopyStep.TheVariants as copying
use Rattle.remote_view.specs.Fold.{recorded, fold}
use Rattle.tier_safe.specs.Scene.{Scene, BrokerTierView, TierTask, Copies}
use Rattle.tier_safe.specs.Changes.{Move, Leaves, Overtakes, ChoosesExpired, Wants, Refreshes, Lines, Asks, Finds, Skips, Reads, moved, Telling, CopyStarts, CopyEnds, ExpiryStarts, ExpiryEnds, note_for, after_telling, Storing, Puts, Undoes, Deletes, after_storing, undone, Change, Steps, Moves, Chooses, Tells, Stores, Sees, Caches, Drops, effect}
use Rattle.tier_safe.specs.Views.{IsNamed, IsIdOf, IsChosen, IsIdUsed, IdsStand}
use Rattle.tier_safe.specs.Safe.{TierSafe}
use Rattle.tier_safe.specs.Follow.{IdsGo, BrokerTierGoes}
use Rattle.tier_safe.specs.Moves.{MayMove}
use Rattle.tier_safe.specs.May.{MayAlter, MayStore, MayTell, MayChoose}
use Rattle.tier_safe.proofs.Steps.{StepGoes}
use Rattle.tier_safe.proofs.Entries.{id_in, other_entry, fold_push}
use Rattle.tier_safe.proofs.Basics.{id_cases}

-- a task's id is used already
abbrev pub UsedTask : List Entry → List TierTask → TierTask → Type 0
UsedTask es desk (Copies copy next) = IsIdUsed es desk copy.id
UsedTask es desk other = Unit {0}

-- what is used after a task was put in its place was used before
used_set : (es new : List Entry) (desk : List TierTask) (a : ℕ) (w : TierTask) → ((id : SegmentId) → IsNamed new id → IsIdUsed es desk id) → UsedTask es desk w
    → (id : SegmentId) → IsIdUsed new (slice_set desk a w) id → IsIdUsed es desk id
used_set es new desk a w named own id u = elim u [
  | inl is ↦ named id is
  | inr on ↦ elim (get-set desk a w on.0 (Copies on.1 on.2) on.3) [
    | inl here ↦ subst (λ (i : SegmentId). IsIdUsed es desk i) on.4 (subst (λ (v : TierTask). UsedTask es desk v) (sym here.1) own)
    | inr there ↦ inr (on.0, on.1, on.2, there.1, on.4)
  ]
]

moved_used : (a : ℕ) (move : Move) (c : Scene) (p : Plain) → MayMove a move c p → UsedTask (fold c.notes) c.desk (moved move)
moved_used a Leaves c p m = tt
moved_used a (Overtakes copy) c p m = inr (a, copy, _, m.actor_state, refl)
moved_used a (ChoosesExpired b expired_segment) c p m = tt
moved_used a (Wants rebuild) c p m = tt
moved_used a (Refreshes rebuild) c p m = tt
moved_used a (Lines rebuild line) c p m = tt
moved_used a (Asks sought) c p m = tt
moved_used a (Finds sought piece) c p m = tt
moved_used a (Skips sought offset) c p m = tt
moved_used a (Reads sought from) c p m = tt

told_used : (telling : Telling) (a : ℕ) (c : Scene) → MayTell a telling c → UsedTask (fold c.notes) c.desk (after_telling telling)
told_used (CopyStarts copy) a c m = inr (a, copy, _, m.actor_state, refl)
told_used (CopyEnds copy) a c m = inr (a, copy, _, m.actor_state, refl)
told_used (ExpiryStarts expired_segment) a c m = tt
told_used (ExpiryEnds expired_segment) a c m = tt

-- the id of a metadata event was used
note_used : (telling : Telling) (a : ℕ) (origin : EventOrigin) (c : Scene) (p : Plain) → MayTell a telling c → TierSafe c p → IsIdUsed (fold c.notes) c.desk (id_in (note_for telling origin))
note_used (CopyStarts copy) a origin c p m h = inr (a, copy, _, m.actor_state, refl)
note_used (CopyEnds copy) a origin c p m h = inr (a, copy, _, m.actor_state, refl)
note_used (ExpiryStarts expired_segment) a origin c p m h = let e = h.deletions.each a expired_segment _ m.actor_state in inl (e.entry, e.there)
note_used (ExpiryEnds expired_segment) a origin c p m h = let e = h.deletions.each a expired_segment _ m.actor_state in inl (e.entry, e.there)

told_named : (telling : Telling) (a : ℕ) (origin : EventOrigin) (c : Scene) (p : Plain) → MayTell a telling c → TierSafe c p → (id : SegmentId)
    → IsNamed (recorded (fold c.notes) (note_for telling origin)) id → IsIdUsed (fold c.notes) c.desk id
told_named telling a origin c p m h id is = elim (id_cases (id_in (note_for telling origin)) id) [
  | inl own ↦ subst (λ (i : SegmentId). IsIdUsed (fold c.notes) c.desk i) own (note_used telling a origin c p m h)
  | inr other ↦ inl (is.0, sym (other_entry (fold c.notes) (note_for telling origin) id other) ∙ is.1)
]

undone_used : (es : List Entry) (desk : List TierTask) (copy : Copied) (n : ℕ) (next : Option ObjectKey) → IsIdUsed es desk copy.id → UsedTask es desk (undone copy n next)
undone_used es desk copy n None u = tt
undone_used es desk copy n (Some key) u = u

stored_used : (storing : Storing) (a : ℕ) (objects : Objects) (c : Scene) → MayStore a storing objects c → UsedTask (fold c.notes) c.desk (after_storing storing)
stored_used (Puts copy n key) a objects c m = inr (a, copy, _, m.actor_state, refl)
stored_used (Undoes copy n key) a objects c m = undone_used (fold c.notes) c.desk copy (n + 1) (slice_get (copy_keys copy) (n + 1)) (inr (a, copy, _, m.actor_state, refl))
stored_used (Deletes expired_segment n key) a objects c m = tt

-- a tier view that keeps its incarnation and attempts
ids_tier_view : (es : List Entry) (desk : List TierTask) (tier_views : List BrokerTierView) (b : ℕ) (old new : BrokerTierView) → slice_get tier_views b ≡ Some old → new.up ≡ old.up
    → new.incarnation ≡ old.incarnation → new.next ≡ old.next → IdsStand es tier_views desk → IdsStand es (slice_set tier_views b new) desk
ids_tier_view es desk tier_views b old new at up incarnation next h = λ id partition d inc att tier_view used is sat.
    elim (get-set tier_views b new d tier_view sat) [
      | inl here ↦
          let k = h id partition d inc att old used is (rw here.0 at) in
          subst (λ (s : BrokerTierView). IsChosen s inc att) (sym here.1) (record {
            opened = rw incarnation k.opened;
            below = λ u e. rw next (k.below (sym up ∙ u) (e ∙ incarnation));
          })
      | inr there ↦ h id partition d inc att tier_view used is there.1
    ]

-- a tier view that chooses
ids_chosen : (a b : ℕ) (tier_view : BrokerTierView) (copy : Copied) (c : Scene) (p : Plain) → MayChoose a b tier_view copy c p → TierSafe c p
    → IdsStand (fold c.notes) (slice_set c.tier_views b (record tier_view { next = tier_view.next + 1 })) (slice_set c.desk a (Copies copy copying.Start))
ids_chosen a b tier_view copy c p m h = λ id partition d inc att s used is at. elim used [
  | inl named ↦ by_old id partition d inc att s (inl named) is at
  | inr on ↦ elim (get-set c.desk a (Copies copy copying.Start) on.0 (Copies on.1 on.2) on.3) [
    | inr there ↦ by_old id partition d inc att s (inr (on.0, on.1, on.2, there.1, on.4)) is at
    | inl here ↦ by_new id partition d inc att s (sym (same_copy on.1 on.2 here.1) ∙ on.4) is at
  ]
]
  where
    same_copy : (other : Copied) (next : CopyNext) → Copies other next ≡ Copies copy copying.Start → other.id ≡ copy.id
    same_copy other next e = let same : other ≡ copy = cc (e) in ap (λ (k : Copied). k.id) same

    by_old : (id : SegmentId) (partition d inc att : ℕ) (s : BrokerTierView) → IsIdUsed (fold c.notes) c.desk id → IsIdOf id partition d inc att
        → slice_get (slice_set c.tier_views b (record tier_view { next = tier_view.next + 1 })) d ≡ Some s → IsChosen s inc att
    by_old id partition d inc att s used is at = elim (get-set c.tier_views b (record tier_view { next = tier_view.next + 1 }) d s at) [
      | inl here ↦
          let k = h.ids id partition d inc att tier_view used is (rw here.0 m.tier_view_is) in
          subst (λ (z : BrokerTierView). IsChosen z inc att) (sym here.1) (record { opened = k.opened; below = λ u e. (let low = k.below u e in omega (arith, low)) })
      | inr there ↦ h.ids id partition d inc att s used is there.1
    ]

    by_new : (id : SegmentId) (partition d inc att : ℕ) (s : BrokerTierView) → copy.id ≡ id → IsIdOf id partition d inc att
        → slice_get (slice_set c.tier_views b (record tier_view { next = tier_view.next + 1 })) d ≡ Some s → IsChosen s inc att
    by_new id partition d inc att s own is at =
        let same = ids_differ copy.partition.0 b tier_view.incarnation tier_view.next partition d inc att m.id.partition_fits is.partition_fits m.id.broker_fits is.broker_fits
        m.id.incarnation_fits is.incarnation_fits m.id.attempt_fits is.attempt_fits (sym m.id.is ∙ (ap (λ (i : SegmentId). i.0) own ∙ is.is)) in
        elim (get-set c.tier_views b (record tier_view { next = tier_view.next + 1 }) d s at) [
          | inl here ↦ subst (λ (z : BrokerTierView). IsChosen z inc att) (sym here.1) (record { opened = omega (arith, same.2); below = λ u e. omega (arith, same.3) })
          | inr there ↦ absurd (there.0 (sym same.1))
        ]

pub ids_kept : (change : Change) (c : Scene) (p : Plain) → MayAlter change c p → TierSafe c p
    → IdsStand (fold (effect change c).notes) (effect change c).tier_views (effect change c).desk
ids_kept (Steps tier_views) c p m h = absurd m
ids_kept (Moves a move) c p m h = λ id partition b inc att tier_view used is at.
    h.ids id partition b inc att tier_view (used_set (fold c.notes) (fold c.notes) c.desk a (moved move) (λ i n. inl n) (moved_used a move c p m) id used) is at
ids_kept (Chooses a b tier_view copy) c p m h = ids_chosen a b tier_view copy c p m h
ids_kept (Tells a telling origin) c p m h =
    subst (λ (es : List Entry). IdsStand es c.tier_views (slice_set c.desk a (after_telling telling))) (sym (fold_push c.notes (note_for telling origin)))
    (λ id partition b inc att tier_view used is at. h.ids id partition b inc att tier_view
    (used_set (fold c.notes) (recorded (fold c.notes) (note_for telling origin)) c.desk a (after_telling telling) (told_named telling a origin c p m h) (told_used telling a c m) id used) is at)
ids_kept (Stores a storing objects) c p m h = λ id partition b inc att tier_view used is at.
    h.ids id partition b inc att tier_view (used_set (fold c.notes) (fold c.notes) c.desk a (after_storing storing) (λ i n. inl n) (stored_used storing a objects c m) id used) is at
ids_kept (Sees b tier_view view) c p m h = ids_tier_view (fold c.notes) c.desk c.tier_views b tier_view (record tier_view { view = view }) m.tier_view_is refl refl refl h.ids
ids_kept (Caches b tier_view cache) c p m h = ids_tier_view (fold c.notes) c.desk c.tier_views b tier_view (record tier_view { cache = cache }) m.tier_view_is refl refl refl h.ids
ids_kept (Drops b tier_view start dropping) c p m h = ids_tier_view (fold c.notes) c.desk c.tier_views b tier_view (record tier_view { start = start }) m.tier_view_is refl refl refl h.ids

-- a tier view before a step and its brokers before and after
pub record Followed (tier_views : List BrokerTierView) (c : Scene) (p q : Plain) (b : ℕ) (new : BrokerTierView) : Type 0 where
  pub old : BrokerTierView
  pub old_is : slice_get c.tier_views b ≡ Some old
  pub x : Broker
  pub x_is : slice_get p.brokers b ≡ Some x
  pub y : Broker
  pub y_is : slice_get q.brokers b ≡ Some y
  pub goes : BrokerTierGoes old new x y

pub followed : (tier_views : List BrokerTierView) (c : Scene) (p q : Plain) (b : ℕ) (new : BrokerTierView) → StepGoes tier_views c p q → TierSafe c p → slice_get tier_views b ≡ Some new → Followed tier_views c p q b new
followed tier_views c p q b new m h at =
    let low = within tier_views b new at in
    let old = look c.tier_views b (omega (arith, low, m.count)) in
    let x = look p.brokers b (omega (arith, low, m.count, h.tier_views.count)) in
    let y = look q.brokers b (omega (arith, low, m.count, h.tier_views.count, m.grows.count)) in
    record {
      old = old.0;
      old_is = old.1;
      x = x.0;
      x_is = x.1;
      y = y.0;
      y_is = y.1;
      goes = m.each b old.0 new x.0 y.0 old.1 at x.1 y.1;
    }

chosen_goes : (old new : BrokerTierView) (inc att : ℕ) → IdsGo old new → IsChosen old inc att → IsChosen new inc att
chosen_goes old new inc att go k = elim go [
  | inl stays ↦ record {
    opened = rw stays.0 k.opened;
    below = λ u e. (let up = stays.1 u in rw up.1 (k.below up.0 (e ∙ stays.0)));
  }
  | inr later ↦ (let o = k.opened in record { opened = omega (arith, o, later); below = λ u e. absurd (omega (arith, o, later, e)) })
]

-- so does a step
pub ids_stepped : (tier_views : List BrokerTierView) (c : Scene) (p q : Plain) → StepGoes tier_views c p q → TierSafe c p → IdsStand (fold c.notes) tier_views c.desk
ids_stepped tier_views c p q m h = λ id partition b inc att new used is at.
    let f = followed tier_views c p q b new m h at in
    chosen_goes f.old new inc att f.goes.ids (h.ids id partition b inc att f.old used is f.old_is)
