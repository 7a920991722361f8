-- Each change leaves copies what their entries and objects say.
use Rattle.std.proofs.Common.{◌≡◌, ◌≢◌, ◌⊎◌, inl, inr, ◌∙◌, sym, ap, subst, refl, ℕ, ◌+◌, ◌<◌, Bool, true, false, cond, List, Option, Some, None, slice_get, slice_set, arith}
use Rattle.std.specs.Prelude.{ℤ, is_some}
use Rattle.std.proofs.lemmas.Bool.{cases_lt}
use Rattle.tier_base.specs.declared.blob.Blob.{Blob}
use Rattle.tier_base.specs.declared.names.BrokerId.{BrokerId}
use Rattle.tier_base.specs.declared.names.SegmentId.{SegmentId}
use Rattle.tier_base.specs.declared.plain.State.{State}
use Rattle.tier_base.specs.declared.plain.State.TheVariants.{CopyStarted, CopyFinished, DeleteStarted, DeleteFinished}
use Rattle.tier_base.specs.declared.object_key.ObjectKey.{ObjectKey}
use Rattle.segment_meta.specs.declared.note.Entry.{Entry}
use Rattle.segment_meta.specs.Rules.{bare_custom}
use Rattle.segment_meta.specs.Steps.{next_state}
use Rattle.object_store.specs.Content.{Objects}
use Rattle.meta_log.specs.declared.event_origin.EventOrigin.{EventOrigin}
use Rattle.log_terms.proofs.Lists.{get-set, look, within}
use Rattle.plain_log.specs.declared.state.Path.{Path}
use Rattle.plain_log.specs.declared.state.State.{State as Plain}
use Rattle.copy_task.specs.Copying.{Copied, keys, entry_of as copied_entry, custom_of}
use Rattle.copy_task.specs.Turns.{put_at}
use Rattle.copy_task.specs.declared.turn.CopyStep.{CopyStep as CopyNext}
use Rattle.copy_task.specs.declared.turn.CopyStep.TheVariants as copying
use Rattle.expiry_task.specs.declared.turn.ExpiredSegment.{ExpiredSegment}
use Rattle.expiry_task.specs.declared.turn.DeletionStep.{DeletionStep as ExpiryNext}
use Rattle.expiry_task.specs.declared.turn.DeletionStep.TheVariants as expiring
use Rattle.expiry_task.specs.Turns.{note_of}
use Rattle.plain_log.proofs.Options.{map_some}
use Rattle.remote_view.specs.Fold.{EntriesSeen, entry_of, state_of, recorded, updated, fold}
use Rattle.tier_safe.specs.Scene.{Scene, BrokerTierView, TierTask, Copies, Expires}
use Rattle.tier_safe.specs.Changes.{Move, Leaves, Overtakes, ChoosesExpired, Wants, Refreshes, Lines, Asks, Finds, Skips, Reads, moved, Telling, CopyStarts, CopyEnds, ExpiryStarts, ExpiryEnds, note_for, after_telling, Storing, Puts, Undoes, Deletes, key_for, after_storing, undone, Change, Steps, Moves, Chooses, Tells, Stores, Sees, Caches, Drops, effect}
use Rattle.tier_safe.specs.Views.{IsIdOf, IsIdUsed}
use Rattle.tier_safe.specs.Copies.{IsEntryFor, IsPartPut, HasPutBefore, HasPutAll, CopyHasKey, CopyAt, CopyStands, CopiesStand, is_deleted}
use Rattle.tier_safe.specs.Safe.{TierSafe}
use Rattle.tier_safe.specs.Moves.{MayMove, MayOvertake}
use Rattle.tier_safe.specs.May.{MayAlter, MayStore, MayTell}
use Rattle.tier_safe.proofs.Entries.{Follows}
use Rattle.tier_safe.proofs.Steps.{StepGoes}
use Rattle.tier_safe.proofs.Entries.{id_in, told, told_follows, told_entry, add_entry, other_entry, fold_push, prefix_goes}
use Rattle.tier_safe.proofs.Basics.{id_cases, nat_cases, key_cases, key_is, some_keys, one_some, some_or_none, not_finished, not_started, not_started_rises, deleted_rises}
use Rattle.tier_safe.proofs.Lineage.{source_grows}

-- an entry that continues is still the copy's
pub entry_for_follows : (copy : Copied) (x y : Entry) → Follows x y → IsEntryFor copy x → IsEntryFor copy y
entry_for_follows copy x y f e = record {
  partition = f.partition ∙ e.partition;
  start = f.start ∙ e.start;
  end = f.end ∙ e.end;
  map = f.map ∙ e.map;
  size = f.size ∙ e.size;
  max_ts = f.max_ts ∙ e.max_ts;
  packed = f.packed ∙ e.packed;
}

-- the same entry
at_entries : (objects : Objects) (es new : List Entry) (copy : Copied) (next : CopyNext) → entry_of copy.id new ≡ entry_of copy.id es
    → CopyAt objects es copy next → CopyAt objects new copy next
at_entries objects es new copy copying.Start e h = e ∙ h
at_entries objects es new copy (copying.Put n) e h = record { entry = h.entry; there = e ∙ h.there; is = h.is; state = h.state }
at_entries objects es new copy copying.Finish e h = record { entry = h.entry; there = e ∙ h.there; is = h.is; state = h.state }
at_entries objects es new copy copying.Check e h = record { entry = h.entry; there = e ∙ h.there; is = h.is; state = h.state }
at_entries objects es new copy (copying.Delete n) e h = record { entry = h.entry; there = e ∙ h.there; is = h.is; state = h.state }

-- an entry whose deletion continues
at_deleted : (objects : Objects) (es new : List Entry) (copy : Copied) (next : CopyNext) (x y : Entry) → entry_of copy.id es ≡ Some x
    → entry_of copy.id new ≡ Some y → Follows x y → (y ≡ x) ⊎ (is_deleted y.state ≡ true) → CopyAt objects es copy next → CopyAt objects new copy next
at_deleted objects es new copy copying.Start x y old is f g h = absurd (cc (old, h))
at_deleted objects es new copy (copying.Put n) x y old is f g h =
    let same = one_some (entry_of copy.id es) h.entry x h.there old in
    record {
      entry = y;
      there = is;
      is = entry_for_follows copy x y f (subst (λ (z : Entry). IsEntryFor copy z) same h.is);
      state = elim g [
        | inl stays ↦ subst (λ (z : Entry). (z.state ≢ CopyFinished) × (z.state ≡ CopyStarted → HasPutBefore objects copy n)) (same ∙ sym stays) h.state
        | inr gone ↦ (not_finished y.state gone, λ e. absurd (not_started y.state gone e))
      ];
    }
at_deleted objects es new copy copying.Finish x y old is f g h =
    let same = one_some (entry_of copy.id es) h.entry x h.there old in
    record {
      entry = y;
      there = is;
      is = entry_for_follows copy x y f (subst (λ (z : Entry). IsEntryFor copy z) same h.is);
      state = elim g [
        | inl stays ↦ subst (λ (z : Entry). (z.state ≢ CopyFinished) × (z.state ≡ CopyStarted → HasPutAll objects copy)) (same ∙ sym stays) h.state
        | inr gone ↦ (not_finished y.state gone, λ e. absurd (not_started y.state gone e))
      ];
    }
at_deleted objects es new copy copying.Check x y old is f g h =
    let same = one_some (entry_of copy.id es) h.entry x h.there old in
    record {
      entry = y;
      there = is;
      is = entry_for_follows copy x y f (subst (λ (z : Entry). IsEntryFor copy z) same h.is);
      state = not_started_rises x.state y.state f.state (subst (λ (z : Entry). z.state ≢ CopyStarted) same h.state);
    }
at_deleted objects es new copy (copying.Delete n) x y old is f g h =
    let same = one_some (entry_of copy.id es) h.entry x h.there old in
    record {
      entry = y;
      there = is;
      is = entry_for_follows copy x y f (subst (λ (z : Entry). IsEntryFor copy z) same h.is);
      state = deleted_rises x.state y.state f.state (subst (λ (z : Entry). is_deleted z.state ≡ true) same h.state);
    }

-- the same objects
at_objects : (old new : Objects) (es : List Entry) (copy : Copied) (next : CopyNext) → ((i : ℕ) (key : ObjectKey) → slice_get (keys copy) i ≡ Some key → new key ≡ old key)
    → CopyAt old es copy next → CopyAt new es copy next
at_objects old new es copy copying.Start same h = h
at_objects old new es copy (copying.Put n) same h =
    record { entry = h.entry; there = h.there; is = h.is; state = (h.state.0, λ e i key at low. same i key at ∙ h.state.1 e i key at low) }
at_objects old new es copy copying.Finish same h =
    record { entry = h.entry; there = h.there; is = h.is; state = (h.state.0, λ e i key at. same i key at ∙ h.state.1 e i key at) }
at_objects old new es copy copying.Check same h = record { entry = h.entry; there = h.there; is = h.is; state = h.state }
at_objects old new es copy (copying.Delete n) same h = record { entry = h.entry; there = h.there; is = h.is; state = h.state }

-- no object matters of a copy whose entry is deleted
at_gone : (old new : Objects) (es : List Entry) (copy : Copied) (next : CopyNext) (x : Entry) → entry_of copy.id es ≡ Some x → is_deleted x.state ≡ true
    → CopyAt old es copy next → CopyAt new es copy next
at_gone old new es copy copying.Start x there gone h = h
at_gone old new es copy (copying.Put n) x there gone h =
    let same = one_some (entry_of copy.id es) h.entry x h.there there in
    record { entry = h.entry; there = h.there; is = h.is; state = (h.state.0, λ e. absurd (not_started x.state gone (sym (ap (λ (z : Entry). z.state) same) ∙ e))) }
at_gone old new es copy copying.Finish x there gone h =
    let same = one_some (entry_of copy.id es) h.entry x h.there there in
    record { entry = h.entry; there = h.there; is = h.is; state = (h.state.0, λ e. absurd (not_started x.state gone (sym (ap (λ (z : Entry). z.state) same) ∙ e))) }
at_gone old new es copy copying.Check x there gone h = record { entry = h.entry; there = h.there; is = h.is; state = h.state }
at_gone old new es copy (copying.Delete n) x there gone h = record { entry = h.entry; there = h.there; is = h.is; state = h.state }

-- an actor's state by its task

abbrev pub CopyTask : Objects → List Path → List Entry → TierTask → Type 0
CopyTask objects paths es (Copies copy next) = CopyStands objects paths es copy next
CopyTask objects paths es other = Unit {0}

-- no other actor's state has a copy of this id
abbrev pub IsAlone : List TierTask → ℕ → SegmentId → Type 0
IsAlone desk a id = (k : ℕ) (other : Copied) (next : CopyNext) → k ≢ a → slice_get desk k ≡ Some (Copies other next) → id ≢ other.id

abbrev pub AloneTask : List TierTask → ℕ → TierTask → Type 0
AloneTask desk a (Copies copy next) = IsAlone desk a copy.id
AloneTask desk a other = Unit {0}

pub alone_actor_state : (c : Scene) (p : Plain) (a : ℕ) (copy : Copied) (next : CopyNext) → TierSafe c p → slice_get c.desk a ≡ Some (Copies copy next) → IsAlone c.desk a copy.id
alone_actor_state c p a copy next h actor_state = λ k other then ne at e. ne (sym (h.copies.apart a k copy other next then actor_state at e))

-- what each task represents, after one was put in its place
pub copies_set : (objects : Objects) (paths : List Path) (es : List Entry) (desk : List TierTask) (a : ℕ) (w : TierTask) → CopyTask objects paths es w → AloneTask desk a w
    → ((k : ℕ) (copy : Copied) (next : CopyNext) → k ≢ a → slice_get desk k ≡ Some (Copies copy next) → CopyStands objects paths es copy next)
    → ((k j : ℕ) (copy other : Copied) (next then : CopyNext) → slice_get desk k ≡ Some (Copies copy next) → slice_get desk j ≡ Some (Copies other then) → copy.id ≡ other.id → k ≡ j)
    → CopiesStand objects paths es (slice_set desk a w)
copies_set objects paths es desk a w own alone others apart = record {
  each = λ k copy next at. elim (get-set desk a w k (Copies copy next) at) [
    | inl here ↦ subst (λ (v : TierTask). CopyTask objects paths es v) (sym here.1) own
    | inr there ↦ others k copy next there.0 there.1
  ];
  apart = λ k j copy other next then at bt e. elim (get-set desk a w k (Copies copy next) at) [
    | inl here ↦ elim (get-set desk a w j (Copies other then) bt) [
      | inl here2 ↦ here.0 ∙ sym here2.0
      | inr there2 ↦ absurd (subst (λ (v : TierTask). AloneTask desk a v) (sym here.1) alone j other then there2.0 there2.1 e)
    ]
    | inr there ↦ elim (get-set desk a w j (Copies other then) bt) [
      | inl here2 ↦ absurd (subst (λ (v : TierTask). AloneTask desk a v) (sym here2.1) alone k copy next there.0 there.1 (sym e))
      | inr there2 ↦ apart k j copy other next then there.1 there2.1 e
    ]
  ];
}

-- moves

overtaken : (a : ℕ) (copy : Copied) (c : Scene) (p : Plain) → MayOvertake a copy c → TierSafe c p
    → CopyStands c.objects p.paths (fold c.notes) copy (copying.Delete 0)
overtaken a copy c p m h =
    let s = h.copies.each a copy copying.Check m.actor_state in
    let v = h.views m.b m.tier_view m.tier_view_is in
    let shown : state_of copy.id (fold v.before) ≡ Some m.state = subst (λ (w : EntriesSeen). state_of copy.id w.entries ≡ Some m.state) v.is m.shows in
    let x = map_some (λ (e : Entry). e.state) (entry_of copy.id (fold v.before)) m.state shown in
    let y = prefix_goes v.before c.notes copy.id x.0 v.begins x.1 in
    let same = one_some (entry_of copy.id (fold c.notes)) s.at.entry y.0 s.at.there y.1 in
    record {
      source = s.source;
      at = record {
        entry = y.0;
        there = y.1;
        is = subst (λ (e : Entry). IsEntryFor copy e) same s.at.is;
        state = deleted_rises x.0.state y.0.state y.2.state (ap is_deleted x.2 ∙ m.deleted);
      };
      key = some_keys copy.partition copy.id copy.packed;
    }

moved_tasks : (a : ℕ) (move : Move) (c : Scene) (p : Plain) → MayMove a move c p → TierSafe c p
    → CopyTask c.objects p.paths (fold c.notes) (moved move) × AloneTask c.desk a (moved move)
moved_tasks a Leaves c p m h = (tt, tt)
moved_tasks a (Overtakes copy) c p m h = (overtaken a copy c p m h, alone_actor_state c p a copy _ h m.actor_state)
moved_tasks a (ChoosesExpired b expired_segment) c p m h = (tt, tt)
moved_tasks a (Wants rebuild) c p m h = (tt, tt)
moved_tasks a (Refreshes rebuild) c p m h = (tt, tt)
moved_tasks a (Lines rebuild line) c p m h = (tt, tt)
moved_tasks a (Asks sought) c p m h = (tt, tt)
moved_tasks a (Finds sought piece) c p m h = (tt, tt)
moved_tasks a (Skips sought offset) c p m h = (tt, tt)
moved_tasks a (Reads sought from) c p m h = (tt, tt)

-- a new id

-- the id that a tier view would choose next isn't used
pub next_unused : (c : Scene) (p : Plain) (id : SegmentId) (partition b : ℕ) (tier_view : BrokerTierView) → TierSafe c p → slice_get c.tier_views b ≡ Some tier_view → tier_view.up ≡ true
    → IsIdOf id partition b tier_view.incarnation tier_view.next → IsIdUsed (fold c.notes) c.desk id → ⊥
next_unused c p id partition b tier_view h at up is used =
    let chosen = h.ids id partition b tier_view.incarnation tier_view.next tier_view used is at in
    let below = chosen.below up refl in
    absurd (omega (arith, below))

-- metadata events

told_gone : (broker : BrokerId) (event_ts : ℤ) (state : State) (custom : Option Blob) (x : Entry) → is_deleted state ≡ true
    → (told broker event_ts state custom x ≡ x) ⊎ (is_deleted (told broker event_ts state custom x).state ≡ true)
told_gone broker event_ts state custom x d = by (is_some (next_state (Some x.state) state))
  where
    by : (t : Bool) → (cond t (updated broker event_ts state custom x) x ≡ x) ⊎ (is_deleted (cond t (updated broker event_ts state custom x) x).state ≡ true)
    by true = inr d
    by false = inl refl

told_ends : (broker : BrokerId) (event_ts : ℤ) (custom : Option Blob) (x : Entry) → (told broker event_ts CopyFinished custom x).state ≢ CopyStarted
told_ends broker event_ts custom x = by x.state
  where
    by : (s : State) → (cond (is_some (next_state (Some s) CopyFinished)) (updated broker event_ts CopyFinished custom x) (record x { state = s })).state ≢ CopyStarted
    by CopyStarted e = absurd (cc (e))
    by CopyFinished e = absurd (cc (e))
    by DeleteStarted e = absurd (cc (e))
    by DeleteFinished e = absurd (cc (e))

own_told : (telling : Telling) (a : ℕ) (origin : EventOrigin) (c : Scene) (p : Plain) → MayTell a telling c → TierSafe c p
    → CopyTask c.objects p.paths (recorded (fold c.notes) (note_for telling origin)) (after_telling telling)
own_told (CopyStarts copy) a origin c p m h =
    let s = h.copies.each a copy _ m.actor_state in
    record {
      source = s.source;
      at = record {
        entry = copied_entry copy origin;
        there = add_entry (fold c.notes) (copied_entry copy origin) refl s.at;
        is = record { partition = refl; start = refl; end = refl; map = refl; size = refl; max_ts = refl; packed = refl };
        state = (λ e. absurd (cc (e)), λ e i key at low. absurd (omega (arith, low)));
      };
      key = some_keys copy.partition copy.id copy.packed;
    }
own_told (CopyEnds copy) a origin c p m h =
    let s = h.copies.each a copy _ m.actor_state in
    record {
      source = s.source;
      at = record {
        entry = told origin.broker origin.now CopyFinished (custom_of copy) s.at.entry;
        there = told_entry (fold c.notes) copy.id origin.broker origin.now CopyFinished (custom_of copy) s.at.entry s.at.there;
        is = entry_for_follows copy s.at.entry (told origin.broker origin.now CopyFinished (custom_of copy) s.at.entry) (told_follows origin.broker origin.now CopyFinished (custom_of copy) s.at.entry) s.at.is;
        state = told_ends origin.broker origin.now (custom_of copy) s.at.entry;
      };
      key = tt;
    }
own_told (ExpiryStarts expired_segment) a origin c p m h = tt
own_told (ExpiryEnds expired_segment) a origin c p m h = tt

alone_told : (telling : Telling) (a : ℕ) (c : Scene) (p : Plain) → MayTell a telling c → TierSafe c p → AloneTask c.desk a (after_telling telling)
alone_told (CopyStarts copy) a c p m h = alone_actor_state c p a copy _ h m.actor_state
alone_told (CopyEnds copy) a c p m h = alone_actor_state c p a copy _ h m.actor_state
alone_told (ExpiryStarts expired_segment) a c p m h = tt
alone_told (ExpiryEnds expired_segment) a c p m h = tt

-- an expiry's metadata event on a copy's id
expiry_told : (expired_segment : ExpiredSegment) (state : State) (a : ℕ) (was : ExpiryNext) (origin : EventOrigin) (c : Scene) (p : Plain) (copy : Copied) (next : CopyNext) → is_deleted state ≡ true
    → slice_get c.desk a ≡ Some (Expires expired_segment was) → TierSafe c p → expired_segment.id ≡ copy.id → CopyAt c.objects (fold c.notes) copy next
    → CopyAt c.objects (recorded (fold c.notes) (note_of expired_segment origin state)) copy next
expiry_told expired_segment state a was origin c p copy next d actor_state h same at =
    let e = h.deletions.each a expired_segment was actor_state in
    let new = told_entry (fold c.notes) expired_segment.id origin.broker origin.now state (bare_custom expired_segment.packed) e.entry e.there in
    at_deleted c.objects (fold c.notes) (recorded (fold c.notes) (note_of expired_segment origin state)) copy next e.entry (told origin.broker origin.now state (bare_custom expired_segment.packed) e.entry)
    (subst (λ (i : SegmentId). entry_of i (fold c.notes) ≡ Some e.entry) same e.there)
    (subst (λ (i : SegmentId). entry_of i (recorded (fold c.notes) (note_of expired_segment origin state)) ≡ Some (told origin.broker origin.now state (bare_custom expired_segment.packed) e.entry)) same new)
    (told_follows origin.broker origin.now state (bare_custom expired_segment.packed) e.entry) (told_gone origin.broker origin.now state (bare_custom expired_segment.packed) e.entry d) at

same_told : (telling : Telling) (a : ℕ) (origin : EventOrigin) (c : Scene) (p : Plain) (k : ℕ) (copy : Copied) (next : CopyNext) → MayTell a telling c → TierSafe c p
    → k ≢ a → slice_get c.desk k ≡ Some (Copies copy next) → id_in (note_for telling origin) ≡ copy.id
    → CopyAt c.objects (recorded (fold c.notes) (note_for telling origin)) copy next
same_told (CopyStarts own) a origin c p k copy next m h ne at same = absurd (alone_actor_state c p a own _ h m.actor_state k copy next ne at same)
same_told (CopyEnds own) a origin c p k copy next m h ne at same = absurd (alone_actor_state c p a own _ h m.actor_state k copy next ne at same)
same_told (ExpiryStarts expired_segment) a origin c p k copy next m h ne at same =
    expiry_told expired_segment DeleteStarted a expiring.Start origin c p copy next refl m.actor_state h same (h.copies.each k copy next at).at
same_told (ExpiryEnds expired_segment) a origin c p k copy next m h ne at same =
    expiry_told expired_segment DeleteFinished a expiring.Finish origin c p copy next refl m.actor_state h same (h.copies.each k copy next at).at

told_copies : (telling : Telling) (a : ℕ) (origin : EventOrigin) (c : Scene) (p : Plain) → MayTell a telling c → TierSafe c p
    → CopiesStand c.objects p.paths (recorded (fold c.notes) (note_for telling origin)) (slice_set c.desk a (after_telling telling))
told_copies telling a origin c p m h =
    copies_set c.objects p.paths (recorded (fold c.notes) (note_for telling origin)) c.desk a (after_telling telling)
    (own_told telling a origin c p m h) (alone_told telling a c p m h)
    (λ k copy next ne at. record {
      source = (h.copies.each k copy next at).source;
      at = elim (id_cases (id_in (note_for telling origin)) copy.id) [
        | inl same ↦ same_told telling a origin c p k copy next m h ne at same
        | inr other ↦ at_entries c.objects (fold c.notes) (recorded (fold c.notes) (note_for telling origin)) copy next
            (other_entry (fold c.notes) (note_for telling origin) copy.id other) (h.copies.each k copy next at).at
      ];
      key = (h.copies.each k copy next at).key;
    })
    h.copies.apart

-- objects

-- the object of a number is put, and none or a further one is left
part_put : (old new : Objects) (es : List Entry) (copy : Copied) (n : ℕ) (key : ObjectKey) (next : Option ObjectKey) → slice_get (keys copy) n ≡ Some key
    → slice_get (keys copy) (n + 1) ≡ next → IsPartPut new copy key → ((k : ObjectKey) → k ≢ key → new k ≡ old k)
    → CopyAt old es copy (copying.Put n) → CopyAt new es copy (put_at (n + 1) next)
part_put old new es copy n key next at more put rest h = by next more
  where
    one : h.entry.state ≡ CopyStarted → (i : ℕ) (k : ObjectKey) → slice_get (keys copy) i ≡ Some k → i < n + 1 → IsPartPut new copy k
    one e i k is low = elim (key_cases k key) [
      | inl same ↦ subst (IsPartPut new copy) (sym same) put
      | inr other ↦ elim (nat_cases i n) [
        | inl last ↦ absurd (other (one_some (slice_get (keys copy) n) k key (ap (slice_get (keys copy)) (sym last) ∙ is) at))
        | inr before ↦ rest k other ∙ h.state.1 e i k is (omega (arith, low, before))
      ]
    ]

    by : (next : Option ObjectKey) → slice_get (keys copy) (n + 1) ≡ next → CopyAt new es copy (put_at (n + 1) next)
    by None none = record { entry = h.entry; there = h.there; is = h.is; state = (h.state.0, λ e i k is. one e i k is (last_of_all i k is none)) }
      where
        last_of_all : (i : ℕ) (k : ObjectKey) → slice_get (keys copy) i ≡ Some k → slice_get (keys copy) (n + 1) ≡ None → i < n + 1
        last_of_all i k is none = elim (cases_lt i (n + 1)) [
          | inl low ↦ low
          | inr high ↦
              let there = look (keys copy) (n + 1) (let below = within (keys copy) i k is in omega (arith, below, high)) in
              absurd (cc (there.1, none))
        ]
    by (Some further) is = record { entry = h.entry; there = h.there; is = h.is; state = (h.state.0, one) }

put_key : (copy : Copied) (n : ℕ) (next : Option ObjectKey) → slice_get (keys copy) n ≡ next → CopyHasKey copy (put_at n next)
put_key copy n None is = tt
put_key copy n (Some key) is = within (keys copy) n key is

own_undone : (objects : Objects) (paths : List Path) (es : List Entry) (copy : Copied) (n m : ℕ) (next : Option ObjectKey) (old : Objects)
    → slice_get (keys copy) m ≡ next → CopyStands old paths es copy (copying.Delete n) → CopyTask objects paths es (undone copy m next)
own_undone objects paths es copy n m None old is h = tt
own_undone objects paths es copy n m (Some key) old is h =
    record { source = h.source; at = record { entry = h.at.entry; there = h.at.there; is = h.at.is; state = h.at.state }; key = within (keys copy) m key is }

alone_undone : (desk : List TierTask) (a : ℕ) (copy : Copied) (n : ℕ) (next : Option ObjectKey) → IsAlone desk a copy.id → AloneTask desk a (undone copy n next)
alone_undone desk a copy n None h = tt
alone_undone desk a copy n (Some key) h = h

own_stored : (storing : Storing) (a : ℕ) (objects : Objects) (c : Scene) (p : Plain) → MayStore a storing objects c → TierSafe c p
    → CopyTask objects p.paths (fold c.notes) (after_storing storing) × AloneTask c.desk a (after_storing storing)
own_stored (Puts copy n key) a objects c p m h =
    let s = h.copies.each a copy _ m.actor_state in (
      record {
        source = s.source;
        at = part_put c.objects objects (fold c.notes) copy n key (slice_get (keys copy) (n + 1)) m.key refl m.made.there m.made.others s.at;
        key = put_key copy (n + 1) (slice_get (keys copy) (n + 1)) refl;
      },
      alone_actor_state c p a copy _ h m.actor_state,
    )
own_stored (Undoes copy n key) a objects c p m h = (
  own_undone objects p.paths (fold c.notes) copy n (n + 1) (slice_get (keys copy) (n + 1)) c.objects refl (h.copies.each a copy (copying.Delete n) m.actor_state),
  alone_undone c.desk a copy (n + 1) (slice_get (keys copy) (n + 1)) (alone_actor_state c p a copy _ h m.actor_state),
)
own_stored (Deletes expired_segment n key) a objects c p m h = (tt, tt)

same_stored : (storing : Storing) (a : ℕ) (objects : Objects) (c : Scene) (p : Plain) (k : ℕ) (copy : Copied) (next : CopyNext) → MayStore a storing objects c → TierSafe c p
    → k ≢ a → slice_get c.desk k ≡ Some (Copies copy next) → (key_for storing).id ≡ copy.id → CopyAt objects (fold c.notes) copy next
same_stored (Puts own n key) a objects c p k copy next m h ne at same =
    absurd (alone_actor_state c p a own _ h m.actor_state k copy next ne at (sym (ap (λ (j : ObjectKey). j.id) (key_is own.partition own.id own.packed n key m.key)) ∙ same))
same_stored (Undoes own n key) a objects c p k copy next m h ne at same =
    absurd (alone_actor_state c p a own _ h m.actor_state k copy next ne at (sym (ap (λ (j : ObjectKey). j.id) (key_is own.partition own.id own.packed n key m.key)) ∙ same))
same_stored (Deletes expired_segment n key) a objects c p k copy next m h ne at same =
    let e = h.deletions.each a expired_segment _ m.actor_state in
    let id : expired_segment.id ≡ copy.id = sym (ap (λ (j : ObjectKey). j.id) (key_is expired_segment.partition expired_segment.id expired_segment.packed n key m.key)) ∙ same in
    at_gone c.objects objects (fold c.notes) copy next e.entry (subst (λ (i : SegmentId). entry_of i (fold c.notes) ≡ Some e.entry) id e.there) e.snapshot (h.copies.each k copy next at).at

pub copies_kept : (change : Change) (c : Scene) (p : Plain) → MayAlter change c p → TierSafe c p
    → CopiesStand (effect change c).objects p.paths (fold (effect change c).notes) (effect change c).desk
copies_kept (Steps tier_views) c p m h = absurd m
copies_kept (Moves a move) c p m h =
    let w = moved_tasks a move c p m h in
    copies_set c.objects p.paths (fold c.notes) c.desk a (moved move) w.0 w.1 (λ k copy next ne at. h.copies.each k copy next at) h.copies.apart
copies_kept (Chooses a b tier_view copy) c p m h =
    copies_set c.objects p.paths (fold c.notes) c.desk a (Copies copy copying.Start)
    (record {
      source = m.source;
      at = elim (some_or_none (entry_of copy.id (fold c.notes))) [
        | inl none ↦ none
        | inr some ↦ absurd (next_unused c p copy.id copy.partition.0 b tier_view h m.tier_view_is m.up m.id (inl some))
      ];
      key = tt;
    })
    (λ k other next ne at e. next_unused c p copy.id copy.partition.0 b tier_view h m.tier_view_is m.up m.id (inr (k, other, next, at, sym e)))
    (λ k other next ne at. h.copies.each k other next at) h.copies.apart
copies_kept (Tells a telling origin) c p m h =
    subst (λ (es : List Entry). CopiesStand c.objects p.paths es (slice_set c.desk a (after_telling telling))) (sym (fold_push c.notes (note_for telling origin)))
    (told_copies telling a origin c p m h)
copies_kept (Stores a storing objects) c p m h =
    let w = own_stored storing a objects c p m h in
    copies_set objects p.paths (fold c.notes) c.desk a (after_storing storing) w.0 w.1
    (λ k copy next ne at. record {
      source = (h.copies.each k copy next at).source;
      at = elim (id_cases (key_for storing).id copy.id) [
        | inl same ↦ same_stored storing a objects c p k copy next m h ne at same
        | inr other ↦ at_objects c.objects objects (fold c.notes) copy next
            (λ i key is. m.made.others key (λ e. other (ap (λ (j : ObjectKey). j.id) (sym e ∙ key_is copy.partition copy.id copy.packed i key is)))) (h.copies.each k copy next at).at
      ];
      key = (h.copies.each k copy next at).key;
    })
    h.copies.apart
copies_kept (Sees b tier_view view) c p m h = h.copies
copies_kept (Caches b tier_view cache) c p m h = h.copies
copies_kept (Drops b tier_view start dropping) c p m h = h.copies

-- so does a step
pub copies_stepped : (tier_views : List BrokerTierView) (c : Scene) (p q : Plain) → StepGoes tier_views c p q → TierSafe c p → CopiesStand c.objects q.paths (fold c.notes) c.desk
copies_stepped tier_views c p q m h = record {
  each = λ a copy next at. let s = h.copies.each a copy next at in record { source = source_grows p.paths q.paths copy m.grows.paths s.source; at = s.at; key = s.key };
  apart = h.copies.apart;
}
