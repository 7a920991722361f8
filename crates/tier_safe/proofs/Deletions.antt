-- Each change leaves what is deleted below the log start offset.
use Rattle.std.proofs.Common.{◌≡◌, ◌≢◌, ◌⊎◌, inl, inr, ◌∙◌, sym, ap, subst, refl, ℕ, ◌+◌, ◌<◌, ◌≤◌, true, cond, not, List, [], ◌∷◌, ◌++◌, Option, Some, None, slice_get, slice_set, arith}
use Rattle.std.specs.Prelude.{ℤ, is_some, nat_lt}
use Rattle.std.proofs.lemmas.Bool.Decides.{nat_tests}
use Rattle.tier_base.specs.declared.blob.Blob.{Blob}
use Rattle.tier_base.specs.declared.names.BrokerId.{BrokerId}
use Rattle.tier_base.specs.declared.names.SegmentId.{SegmentId}
use Rattle.tier_base.specs.declared.plain.State.{State}
use Rattle.tier_base.specs.declared.plain.State.TheVariants.{CopyStarted, CopyFinished, DeleteStarted, DeleteFinished}
use Rattle.tier_base.specs.declared.object_key.ObjectKey.{ObjectKey}
use Rattle.segment_meta.specs.declared.note.Entry.{Entry}
use Rattle.segment_meta.specs.declared.note.Note.{Note}
use Rattle.segment_meta.specs.Rules.{bare_custom}
use Rattle.segment_meta.specs.Spelling.{state_code}
use Rattle.segment_meta.specs.Steps.{next_state}
use Rattle.object_store.specs.Content.{Objects}
use Rattle.meta_log.specs.declared.event_origin.EventOrigin.{EventOrigin}
use Rattle.log_terms.proofs.Lists.{get-set, prefix_snoc, within}
use Rattle.plain_log.specs.declared.state.State.{State as Plain}
use Rattle.plain_log.proofs.Options.{both}
use Rattle.copy_task.specs.Copying.{Copied, keys as copy_keys}
use Rattle.copy_task.specs.declared.turn.CopyStep.TheVariants as copying
use Rattle.expiry_task.specs.declared.turn.ExpiredSegment.{ExpiredSegment}
use Rattle.expiry_task.specs.declared.turn.DeletionStep.{DeletionStep as ExpiryNext}
use Rattle.expiry_task.specs.declared.turn.DeletionStep.TheVariants as expiring
use Rattle.expiry_task.specs.Turns.{keys as expiry_keys, delete_at}
use Rattle.remote_view.specs.Fold.{EntriesSeen, entry_of, recorded, updated, fold}
use Rattle.remote_view.specs.Lookup.{is_gone}
use Rattle.tier_safe.specs.Scene.{Scene, BrokerTierView, TierTask, Copies, Expires}
use Rattle.tier_safe.specs.Changes.{Move, Leaves, Overtakes, ChoosesExpired, Wants, Refreshes, Lines, Asks, Finds, Skips, Reads, moved, Telling, CopyStarts, CopyEnds, ExpiryStarts, ExpiryEnds, note_for, after_telling, Storing, Puts, Undoes, Deletes, after_storing, undone, Change, Steps, Moves, Chooses, Tells, Stores, Sees, Caches, Drops, effect}
use Rattle.tier_safe.specs.Copies.{is_deleted}
use Rattle.tier_safe.specs.Starts.{DeletedEnd, HasBegun, ExpiryHasKey, ExpiryStands, DeletionsStand}
use Rattle.tier_safe.specs.Safe.{TierSafe}
use Rattle.tier_safe.specs.Moves.{MayMove, MayChooseExpired}
use Rattle.tier_safe.specs.May.{MayAlter, MayStore, MayTell}
use Rattle.tier_safe.proofs.Steps.{StepGoes}
use Rattle.tier_safe.proofs.Entries.{id_in, told, told_entry, told_follows, entry_goes, prefix_goes, other_entry, fold_push}
use Rattle.tier_safe.proofs.Basics.{id_cases, some_keys, one_some, deleted_rises}

pub finished_or : (s : State) → (s ≡ CopyFinished) ⊎ (s ≢ CopyFinished)
finished_or CopyFinished = inl refl
finished_or s = inr (λ e. absurd (cc (e)))

-- what ends a finished copy is an expiry of it
finished_told : (telling : Telling) (a : ℕ) (origin : EventOrigin) (c : Scene) (p : Plain) (x : Entry) → MayTell a telling c → TierSafe c p
    → entry_of (id_in (note_for telling origin)) (fold c.notes) ≡ Some x → x.state ≡ CopyFinished → x.end < p.registry.start
finished_told (CopyStarts copy) a origin c p x m h is done = absurd (cc (is, (h.copies.each a copy _ m.actor_state).at))
finished_told (CopyEnds copy) a origin c p x m h is done =
    let s = (h.copies.each a copy _ m.actor_state).at in
    absurd (s.state.0 (ap (λ (e : Entry). e.state) (one_some (entry_of copy.id (fold c.notes)) s.entry x s.there is) ∙ done))
finished_told (ExpiryStarts expired_segment) a origin c p x m h is done =
    let s = h.deletions.each a expired_segment _ m.actor_state in
    subst (λ (e : Entry). e.end < p.registry.start) (one_some (entry_of expired_segment.id (fold c.notes)) s.entry x s.there is) s.below
finished_told (ExpiryEnds expired_segment) a origin c p x m h is done =
    let s = h.deletions.each a expired_segment _ m.actor_state in
    subst (λ (e : Entry). e.end < p.registry.start) (one_some (entry_of expired_segment.id (fold c.notes)) s.entry x s.there is) s.below

ended_told : (telling : Telling) (a : ℕ) (origin : EventOrigin) (c : Scene) (p : Plain) → MayTell a telling c → TierSafe c p
    → DeletedEnd (c.notes ++ note_for telling origin ∷ []) p.registry.start
ended_told telling a origin c p m h id before then now pre is done found ne =
    elim (prefix_snoc before c.notes (note_for telling origin) pre) [
      | inr all ↦
          let same = one_some (entry_of id (fold (c.notes ++ note_for telling origin ∷ []))) then now (sym (ap (λ (ns : List Note). entry_of id (fold ns)) all) ∙ is) found in
          absurd (ne (sym (ap (λ (e : Entry). e.state) same) ∙ done))
      | inl old ↦
          let x = prefix_goes before c.notes id then old is in
          let y = entry_goes (fold c.notes) (note_for telling origin) id x.0 x.1 in
          let new = sym (ap (entry_of id) (fold_push c.notes (note_for telling origin))) ∙ found in
          let same : y.0 ≡ now = one_some (entry_of id (recorded (fold c.notes) (note_for telling origin))) y.0 now y.1 new in
          let end : now.end ≡ x.0.end = sym (ap (λ (e : Entry). e.end) same) ∙ y.2.end in
          let low : x.0.end < p.registry.start = elim (finished_or x.0.state) [
            | inr other ↦ h.deletions.ended id before then x.0 old is done x.1 other
            | inl still ↦ elim (id_cases (id_in (note_for telling origin)) id) [
              | inl own ↦ finished_told telling a origin c p x.0 m h (ap (λ (i : SegmentId). entry_of i (fold c.notes)) own ∙ x.1) still
              | inr other ↦
                  let stays : now ≡ x.0 = one_some (entry_of id (fold c.notes)) now x.0 (sym (other_entry (fold c.notes) (note_for telling origin) id other) ∙ new) x.1 in
                  absurd (ne (ap (λ (e : Entry). e.state) stays ∙ still))
            ]
          ] in
          rw end low
    ]

-- an actor's state by its task

abbrev pub ExpiryTask : List Entry → ℕ → TierTask → Type 0
ExpiryTask es start (Expires expired_segment next) = ExpiryStands es start expired_segment next
ExpiryTask es start other = Unit {0}

expiries_set : (es : List Entry) (start : ℕ) (desk : List TierTask) (a : ℕ) (w : TierTask) → ExpiryTask es start w
    → ((k : ℕ) (expired_segment : ExpiredSegment) (next : ExpiryNext) → slice_get desk k ≡ Some (Expires expired_segment next) → ExpiryStands es start expired_segment next)
    → (k : ℕ) (expired_segment : ExpiredSegment) (next : ExpiryNext) → slice_get (slice_set desk a w) k ≡ Some (Expires expired_segment next) → ExpiryStands es start expired_segment next
expiries_set es start desk a w own others k expired_segment next at = elim (get-set desk a w k (Expires expired_segment next) at) [
  | inl here ↦ subst (λ (v : TierTask). ExpiryTask es start v) (sym here.1) own
  | inr there ↦ others k expired_segment next there.1
]

begun_rises : (next : ExpiryNext) (old new : State) → state_code old ≤ state_code new → HasBegun next old → HasBegun next new
begun_rises expiring.Start old new h b = tt
begun_rises (expiring.Delete n) old new h b = deleted_rises old new h b
begun_rises expiring.Finish old new h b = deleted_rises old new h b

-- an expiry's entry after a metadata event
expiry_goes : (es : List Entry) (note : Note) (start : ℕ) (expired_segment : ExpiredSegment) (next : ExpiryNext) → ExpiryStands es start expired_segment next → ExpiryStands (recorded es note) start expired_segment next
expiry_goes es note start expired_segment next h =
    let y = entry_goes es note expired_segment.id h.entry h.there in
    record {
      entry = y.0;
      there = y.1;
      below = rw y.2.end h.below;
      snapshot = begun_rises next h.entry.state y.0.state y.2.state h.snapshot;
      key = h.key;
    }

expired_segment_task : (a b : ℕ) (expired_segment : ExpiredSegment) (c : Scene) (p : Plain) → MayChooseExpired a b expired_segment c p → TierSafe c p → ExpiryStands (fold c.notes) p.registry.start expired_segment expiring.Start
expired_segment_task a b expired_segment c p m h =
    let v = h.views b m.tier_view m.tier_view_is in
    let y = prefix_goes v.before c.notes expired_segment.id m.entry v.begins (subst (λ (s : EntriesSeen). entry_of expired_segment.id s.entries ≡ Some m.entry) v.is m.there) in
    let d = both (nat_lt m.entry.end p.registry.start) (not (is_gone m.entry.state)) m.due in
    let low : m.entry.end < p.registry.start = grind (arith, nat_tests, d.0) in
    record { entry = y.0; there = y.1; below = rw y.2.end low; snapshot = tt; key = tt }

moved_expiry : (a : ℕ) (move : Move) (c : Scene) (p : Plain) → MayMove a move c p → TierSafe c p → ExpiryTask (fold c.notes) p.registry.start (moved move)
moved_expiry a Leaves c p m h = tt
moved_expiry a (Overtakes copy) c p m h = tt
moved_expiry a (ChoosesExpired b expired_segment) c p m h = expired_segment_task a b expired_segment c p m h
moved_expiry a (Wants rebuild) c p m h = tt
moved_expiry a (Refreshes rebuild) c p m h = tt
moved_expiry a (Lines rebuild line) c p m h = tt
moved_expiry a (Asks sought) c p m h = tt
moved_expiry a (Finds sought piece) c p m h = tt
moved_expiry a (Skips sought offset) c p m h = tt
moved_expiry a (Reads sought from) c p m h = tt

told_begun : (broker : BrokerId) (event_ts : ℤ) (custom : Option Blob) (x : Entry) → is_deleted (told broker event_ts DeleteStarted custom x).state ≡ true
told_begun broker event_ts custom x = by x.state
  where
    by : (s : State) → is_deleted (cond (is_some (next_state (Some s) DeleteStarted)) (updated broker event_ts DeleteStarted custom x) (record x { state = s })).state ≡ true
    by CopyStarted = refl
    by CopyFinished = refl
    by DeleteStarted = refl
    by DeleteFinished = refl

told_expiry : (telling : Telling) (a : ℕ) (origin : EventOrigin) (c : Scene) (p : Plain) → MayTell a telling c → TierSafe c p
    → ExpiryTask (recorded (fold c.notes) (note_for telling origin)) p.registry.start (after_telling telling)
told_expiry (CopyStarts copy) a origin c p m h = tt
told_expiry (CopyEnds copy) a origin c p m h = tt
told_expiry (ExpiryStarts expired_segment) a origin c p m h =
    let s = h.deletions.each a expired_segment _ m.actor_state in
    record {
      entry = told origin.broker origin.now DeleteStarted (bare_custom expired_segment.packed) s.entry;
      there = told_entry (fold c.notes) expired_segment.id origin.broker origin.now DeleteStarted (bare_custom expired_segment.packed) s.entry s.there;
      below = rw (told_follows origin.broker origin.now DeleteStarted (bare_custom expired_segment.packed) s.entry).end s.below;
      snapshot = told_begun origin.broker origin.now (bare_custom expired_segment.packed) s.entry;
      key = some_keys expired_segment.partition expired_segment.id expired_segment.packed;
    }
told_expiry (ExpiryEnds expired_segment) a origin c p m h = tt

after_begun : (n : ℕ) (next : Option ObjectKey) (state : State) → is_deleted state ≡ true → HasBegun (delete_at n next) state
after_begun n None state d = d
after_begun n (Some key) state d = d

delete_key : (expired_segment : ExpiredSegment) (n : ℕ) (next : Option ObjectKey) → slice_get (expiry_keys expired_segment) n ≡ next → ExpiryHasKey expired_segment (delete_at n next)
delete_key expired_segment n None is = tt
delete_key expired_segment n (Some key) is = within (expiry_keys expired_segment) n key is

undone_expiry : (es : List Entry) (start : ℕ) (copy : Copied) (n : ℕ) (next : Option ObjectKey) → ExpiryTask es start (undone copy n next)
undone_expiry es start copy n None = tt
undone_expiry es start copy n (Some key) = tt

stored_expiry : (storing : Storing) (a : ℕ) (objects : Objects) (c : Scene) (p : Plain) → MayStore a storing objects c → TierSafe c p
    → ExpiryTask (fold c.notes) p.registry.start (after_storing storing)
stored_expiry (Puts copy n key) a objects c p m h = tt
stored_expiry (Undoes copy n key) a objects c p m h = undone_expiry (fold c.notes) p.registry.start copy (n + 1) (slice_get (copy_keys copy) (n + 1))
stored_expiry (Deletes expired_segment n key) a objects c p m h =
    let s = h.deletions.each a expired_segment _ m.actor_state in
    record { entry = s.entry; there = s.there; below = s.below; snapshot = after_begun (n + 1) (slice_get (expiry_keys expired_segment) (n + 1)) s.entry.state s.snapshot; key = delete_key expired_segment (n + 1) (slice_get (expiry_keys expired_segment) (n + 1)) refl }

pub deletions_kept : (change : Change) (c : Scene) (p : Plain) → MayAlter change c p → TierSafe c p
    → DeletionsStand (effect change c).notes p.registry.start (effect change c).desk
deletions_kept (Steps tier_views) c p m h = absurd m
deletions_kept (Moves a move) c p m h = record {
  ended = h.deletions.ended;
  each = expiries_set (fold c.notes) p.registry.start c.desk a (moved move) (moved_expiry a move c p m h) h.deletions.each;
}
deletions_kept (Chooses a b tier_view copy) c p m h = record {
  ended = h.deletions.ended;
  each = expiries_set (fold c.notes) p.registry.start c.desk a (Copies copy copying.Start) tt h.deletions.each;
}
deletions_kept (Tells a telling origin) c p m h = record {
  ended = ended_told telling a origin c p m h;
  each = subst (λ (es : List Entry). (k : ℕ) (expired_segment : ExpiredSegment) (next : ExpiryNext) → slice_get (slice_set c.desk a (after_telling telling)) k ≡ Some (Expires expired_segment next)
      → ExpiryStands es p.registry.start expired_segment next) (sym (fold_push c.notes (note_for telling origin)))
      (expiries_set (recorded (fold c.notes) (note_for telling origin)) p.registry.start c.desk a (after_telling telling) (told_expiry telling a origin c p m h)
      (λ k expired_segment next at. expiry_goes (fold c.notes) (note_for telling origin) p.registry.start expired_segment next (h.deletions.each k expired_segment next at)));
}
deletions_kept (Stores a storing objects) c p m h = record {
  ended = h.deletions.ended;
  each = expiries_set (fold c.notes) p.registry.start c.desk a (after_storing storing) (stored_expiry storing a objects c p m h) h.deletions.each;
}
deletions_kept (Sees b tier_view view) c p m h = h.deletions
deletions_kept (Caches b tier_view cache) c p m h = h.deletions
deletions_kept (Drops b tier_view start dropping) c p m h = h.deletions

-- so does a step
pub deletions_stepped : (tier_views : List BrokerTierView) (c : Scene) (p q : Plain) → StepGoes tier_views c p q → TierSafe c p → DeletionsStand c.notes q.registry.start c.desk
deletions_stepped tier_views c p q m h = record {
  ended = λ id before then now pre is done found ne. (let low = h.deletions.ended id before then now pre is done found ne in omega (arith, low, m.grows.start));
  each = λ a expired_segment next at. (let s = h.deletions.each a expired_segment next at in
      record { entry = s.entry; there = s.there; below = (let low = s.below in omega (arith, low, m.grows.start)); snapshot = s.snapshot; key = s.key });
}
