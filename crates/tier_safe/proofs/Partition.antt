-- Each change leaves entries, objects, and what is copied or deleted, those of the one partition.
use Rattle.std.proofs.Common.{◌≡◌, inl, inr, ◌∙◌, sym, ap, subst, refl, ℕ, ◌+◌, List, Option, Some, None, slice_get, slice_set}
use Rattle.tier_base.specs.declared.names.SegmentId.{SegmentId}
use Rattle.tier_base.specs.declared.names.PartitionId.{PartitionId}
use Rattle.tier_base.specs.declared.object_key.ObjectKey.{ObjectKey}
use Rattle.segment_meta.specs.declared.note.Entry.{Entry}
use Rattle.log_terms.proofs.Lists.{get-set}
use Rattle.meta_log.specs.declared.event_origin.EventOrigin.{EventOrigin}
use Rattle.object_store.specs.Content.{Objects}
use Rattle.plain_log.specs.declared.state.State.{State as Plain}
use Rattle.remote_view.specs.Fold.{EntriesSeen, entry_of, recorded, fold}
use Rattle.copy_task.specs.Copying.{Copied, keys as copy_keys, entry_of as copied_entry}
use Rattle.copy_task.specs.declared.turn.CopyStep.{CopyStep as CopyNext}
use Rattle.expiry_task.specs.declared.turn.ExpiredSegment.{ExpiredSegment}
use Rattle.expiry_task.specs.declared.turn.DeletionStep.{DeletionStep as ExpiryNext}
use Rattle.tier_safe.specs.Scene.{TierTask, Copies, Expires, Scene}
use Rattle.tier_safe.specs.Changes.{Move, Leaves, Overtakes, ChoosesExpired, Wants, Refreshes, Lines, Asks, Finds, Skips, Reads, moved, Telling, CopyStarts, CopyEnds, ExpiryStarts, ExpiryEnds, note_for, after_telling, Storing, Puts, Undoes, Deletes, after_storing, undone, key_for, made_by, Change, Steps, Moves, Chooses, Tells, Stores, Sees, Caches, Drops, effect}
use Rattle.tier_safe.specs.Views.{AreOfPartition}
use Rattle.tier_safe.specs.Safe.{TierSafe}
use Rattle.tier_safe.specs.Moves.{MayMove, MayChooseExpired}
use Rattle.tier_safe.specs.May.{MayTell, MayStore, MayAlter}
use Rattle.tier_safe.proofs.Entries.{id_in, other_entry, add_entry, entry_goes, prefix_goes, fold_push}
use Rattle.tier_safe.proofs.Basics.{id_cases, some_or_none, one_some, key_is, object_at}

-- entries

-- where a metadata event adds an entry, it is a copy's first metadata event
added_of : (telling : Telling) (a : ℕ) (origin : EventOrigin) (c : Scene) (p : Plain) (y : Entry) → MayTell a telling c → TierSafe c p
    → entry_of (id_in (note_for telling origin)) (fold c.notes) ≡ None
    → entry_of (id_in (note_for telling origin)) (recorded (fold c.notes) (note_for telling origin)) ≡ Some y → y.partition ≡ c.partition
added_of (CopyStarts copy) a origin c p y m h none is =
    let added = add_entry (fold c.notes) (copied_entry copy origin) refl none in
    let one = one_some (entry_of copy.id (recorded (fold c.notes) (note_for (CopyStarts copy) origin))) y (copied_entry copy origin) is added in
    ap (λ (e : Entry). e.partition) one ∙ h.partition.copied a copy _ m.actor_state
added_of (CopyEnds copy) a origin c p y m h none is = absurd (let k = rw none at is in cc (k, none))
added_of (ExpiryStarts expired_segment) a origin c p y m h none is = absurd (let k = rw none at is in cc (k, none))
added_of (ExpiryEnds expired_segment) a origin c p y m h none is = absurd (let k = rw none at is in cc (k, none))

told_of : (telling : Telling) (a : ℕ) (origin : EventOrigin) (c : Scene) (p : Plain) → MayTell a telling c → TierSafe c p
    → (id : SegmentId) (y : Entry) → entry_of id (recorded (fold c.notes) (note_for telling origin)) ≡ Some y → y.partition ≡ c.partition
told_of telling a origin c p m h id y is = elim (some_or_none (entry_of id (fold c.notes))) [
  | inr old ↦
      let more = entry_goes (fold c.notes) (note_for telling origin) id old.0 old.1 in
      let one = one_some (entry_of id (recorded (fold c.notes) (note_for telling origin))) y more.0 is more.1 in
      ap (λ (e : Entry). e.partition) one ∙ (more.2.partition ∙ h.partition.told id old.0 old.1)
  | inl none ↦ elim (id_cases (id_in (note_for telling origin)) id) [
    | inr other ↦ absurd (let stays = other_entry (fold c.notes) (note_for telling origin) id other in cc (stays, none, is))
    | inl own ↦
        added_of telling a origin c p y m h (ap (λ (i : SegmentId). entry_of i (fold c.notes)) own ∙ none)
        (subst (λ (i : SegmentId). entry_of i (recorded (fold c.notes) (note_for telling origin)) ≡ Some y) (sym own) is)
  ]
]

-- objects

stored_of : (storing : Storing) (a : ℕ) (objects : Objects) (c : Scene) (p : Plain) (bytes : List ℕ) → MayStore a storing objects c → TierSafe c p
    → made_by storing (c.objects (key_for storing)) ≡ Some bytes → (key_for storing).partition ≡ c.partition
stored_of (Puts copy n key) a objects c p bytes m h is = ap (λ (k : ObjectKey). k.partition) (key_is copy.partition copy.id copy.packed n key m.key) ∙ h.partition.copied a copy _ m.actor_state
stored_of (Undoes copy n key) a objects c p bytes m h is = absurd (cc)
stored_of (Deletes expired_segment n key) a objects c p bytes m h is = absurd (cc)

-- actors' states

-- what an actor's state has is of the partition
abbrev TaskOf : PartitionId → TierTask → Type 0
TaskOf partition (Copies copy next) = copy.partition ≡ partition
TaskOf partition (Expires expired_segment next) = expired_segment.partition ≡ partition
TaskOf partition other = Unit {0}

copies_set : (partition : PartitionId) (desk : List TierTask) (a : ℕ) (w : TierTask) → TaskOf partition w
    → ((k : ℕ) (copy : Copied) (next : CopyNext) → slice_get desk k ≡ Some (Copies copy next) → copy.partition ≡ partition)
    → (k : ℕ) (copy : Copied) (next : CopyNext) → slice_get (slice_set desk a w) k ≡ Some (Copies copy next) → copy.partition ≡ partition
copies_set partition desk a w own h k copy next at = elim (get-set desk a w k (Copies copy next) at) [
  | inl here ↦ subst (TaskOf partition) (sym here.1) own
  | inr there ↦ h k copy next there.1
]

expiries_set : (partition : PartitionId) (desk : List TierTask) (a : ℕ) (w : TierTask) → TaskOf partition w
    → ((k : ℕ) (expired_segment : ExpiredSegment) (next : ExpiryNext) → slice_get desk k ≡ Some (Expires expired_segment next) → expired_segment.partition ≡ partition)
    → (k : ℕ) (expired_segment : ExpiredSegment) (next : ExpiryNext) → slice_get (slice_set desk a w) k ≡ Some (Expires expired_segment next) → expired_segment.partition ≡ partition
expiries_set partition desk a w own h k expired_segment next at = elim (get-set desk a w k (Expires expired_segment next) at) [
  | inl here ↦ subst (TaskOf partition) (sym here.1) own
  | inr there ↦ h k expired_segment next there.1
]

expired_segment_of : (a b : ℕ) (expired_segment : ExpiredSegment) (c : Scene) (p : Plain) → MayChooseExpired a b expired_segment c p → TierSafe c p → expired_segment.partition ≡ c.partition
expired_segment_of a b expired_segment c p m h =
    let v = h.views b m.tier_view m.tier_view_is in
    let there : entry_of expired_segment.id (fold v.before) ≡ Some m.entry = subst (λ (s : EntriesSeen). entry_of expired_segment.id s.entries ≡ Some m.entry) v.is m.there in
    let y = prefix_goes v.before c.notes expired_segment.id m.entry v.begins there in
    m.partition ∙ (sym y.2.partition ∙ h.partition.told expired_segment.id y.0 y.1)

moved_of : (move : Move) (a : ℕ) (c : Scene) (p : Plain) → MayMove a move c p → TierSafe c p → TaskOf c.partition (moved move)
moved_of Leaves a c p m h = tt
moved_of (Overtakes copy) a c p m h = h.partition.copied a copy _ m.actor_state
moved_of (ChoosesExpired b expired_segment) a c p m h = expired_segment_of a b expired_segment c p m h
moved_of (Wants rebuild) a c p m h = tt
moved_of (Refreshes rebuild) a c p m h = tt
moved_of (Lines rebuild line) a c p m h = tt
moved_of (Asks sought) a c p m h = tt
moved_of (Finds sought piece) a c p m h = tt
moved_of (Skips sought offset) a c p m h = tt
moved_of (Reads sought from) a c p m h = tt

told_task : (telling : Telling) (a : ℕ) (c : Scene) (p : Plain) → MayTell a telling c → TierSafe c p → TaskOf c.partition (after_telling telling)
told_task (CopyStarts copy) a c p m h = h.partition.copied a copy _ m.actor_state
told_task (CopyEnds copy) a c p m h = h.partition.copied a copy _ m.actor_state
told_task (ExpiryStarts expired_segment) a c p m h = h.partition.deleted a expired_segment _ m.actor_state
told_task (ExpiryEnds expired_segment) a c p m h = tt

undone_task : (partition : PartitionId) (copy : Copied) (n : ℕ) (next : Option ObjectKey) → copy.partition ≡ partition → TaskOf partition (undone copy n next)
undone_task partition copy n None h = tt
undone_task partition copy n (Some key) h = h

stored_task : (storing : Storing) (a : ℕ) (objects : Objects) (c : Scene) (p : Plain) → MayStore a storing objects c → TierSafe c p
    → TaskOf c.partition (after_storing storing)
stored_task (Puts copy n key) a objects c p m h = h.partition.copied a copy _ m.actor_state
stored_task (Undoes copy n key) a objects c p m h = undone_task c.partition copy (n + 1) (slice_get (copy_keys copy) (n + 1)) (h.partition.copied a copy _ m.actor_state)
stored_task (Deletes expired_segment n key) a objects c p m h = h.partition.deleted a expired_segment _ m.actor_state

-- the actors' states after one was set
desk_set : (c d : Scene) (a : ℕ) (w : TierTask) (p : Plain) → TierSafe c p → TaskOf c.partition w
    → ((id : SegmentId) (entry : Entry) → entry_of id (fold d.notes) ≡ Some entry → entry.partition ≡ c.partition)
    → ((key : ObjectKey) (bytes : List ℕ) → d.objects key ≡ Some bytes → key.partition ≡ c.partition)
    → AreOfPartition c.partition d.objects (fold d.notes) (slice_set c.desk a w)
desk_set c d a w p h own told stored = record {
  told = told;
  stored = stored;
  copied = copies_set c.partition c.desk a w own h.partition.copied;
  deleted = expiries_set c.partition c.desk a w own h.partition.deleted;
}

pub partition_kept : (change : Change) (c : Scene) (p : Plain) → MayAlter change c p → TierSafe c p
    → AreOfPartition (effect change c).partition (effect change c).objects (fold (effect change c).notes) (effect change c).desk
partition_kept (Steps tier_views) c p m h = absurd m
partition_kept (Moves a move) c p m h = desk_set c c a (moved move) p h (moved_of move a c p m h) h.partition.told h.partition.stored
partition_kept (Chooses a b tier_view copy) c p m h = desk_set c c a (Copies copy _) p h m.partition h.partition.told h.partition.stored
partition_kept (Tells a telling origin) c p m h = desk_set c (effect (Tells a telling origin) c) a (after_telling telling) p h (told_task telling a c p m h)
    (λ id entry is. told_of telling a origin c p m h id entry (sym (ap (entry_of id) (fold_push c.notes (note_for telling origin))) ∙ is)) h.partition.stored
partition_kept (Stores a storing objects) c p m h =
    desk_set c (effect (Stores a storing objects) c) a (after_storing storing) p h (stored_task storing a objects c p m h) h.partition.told
    (λ key bytes is. elim (object_at (key_for storing) (made_by storing) c.objects objects key m.made) [
      | inl own ↦ ap (λ (k : ObjectKey). k.partition) own.0 ∙ stored_of storing a objects c p bytes m h (sym own.1 ∙ is)
      | inr other ↦ h.partition.stored key bytes (sym other.1 ∙ is)
    ])
partition_kept (Sees b tier_view view) c p m h = h.partition
partition_kept (Caches b tier_view cache) c p m h = h.partition
partition_kept (Drops b tier_view start dropping) c p m h = h.partition
