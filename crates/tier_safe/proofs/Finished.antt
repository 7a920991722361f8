-- Each change leaves the objects of finished copies.
use Rattle.std.proofs.Common.{◌≡◌, ◌≢◌, inl, inr, ◌∙◌, sym, ap, subst, refl, ℕ, Bool, true, false, cond, List, length, Option, Some, slice_get}
use Rattle.std.specs.Prelude.{ℤ, is_some}
use Rattle.tier_base.specs.declared.blob.Blob.{Blob}
use Rattle.tier_base.specs.declared.names.BrokerId.{BrokerId}
use Rattle.tier_base.specs.declared.names.PartitionId.{PartitionId}
use Rattle.tier_base.specs.declared.names.SegmentId.{SegmentId}
use Rattle.tier_base.specs.declared.plain.State.{State}
use Rattle.tier_base.specs.declared.plain.State.TheVariants.{CopyStarted, CopyFinished, DeleteStarted, DeleteFinished}
use Rattle.tier_base.specs.declared.object_key.ObjectKey.{ObjectKey}
use Rattle.segment_meta.specs.declared.note.Entry.{Entry}
use Rattle.segment_meta.specs.Rules.{bare_custom}
use Rattle.segment_meta.specs.Steps.{next_state}
use Rattle.segment_file.specs.Segment.{IsSegment}
use Rattle.tier_base.specs.Layout.{layout_bytes}
use Rattle.segment_bundle.specs.Parts.{Parts, part_in, layout_of}
use Rattle.object_store.specs.Content.{Objects}
use Rattle.object_store.specs.Place.{keys_of}
use Rattle.meta_log.specs.declared.event_origin.EventOrigin.{EventOrigin}
use Rattle.plain_log.specs.declared.state.Path.{Path}
use Rattle.plain_log.specs.declared.state.State.{State as Plain}
use Rattle.copy_task.specs.Copying.{Copied, entry_of as copied_entry, custom_of, start_note, finish_note}
use Rattle.expiry_task.specs.declared.turn.ExpiredSegment.{ExpiredSegment}
use Rattle.expiry_task.specs.declared.turn.DeletionStep.{DeletionStep as ExpiryNext}
use Rattle.expiry_task.specs.Turns.{note_of}
use Rattle.remote_view.specs.Fold.{entry_of, recorded, updated, fold}
use Rattle.remote_view.proofs.Changes.{found_id}
use Rattle.tier_safe.specs.Scene.{Scene, BrokerTierView, Expires}
use Rattle.tier_safe.specs.Changes.{Telling, CopyStarts, CopyEnds, ExpiryStarts, ExpiryEnds, note_for, Storing, Puts, Undoes, Deletes, key_for, Change, Steps, Moves, Chooses, Tells, Stores, Sees, Caches, Drops, effect}
use Rattle.tier_safe.specs.Lineage.{IsPathPart, TellsParts, IsStoredWhole, IsSource}
use Rattle.tier_safe.specs.Copies.{FinishedStand, IsEntryFor, HasPutAll}
use Rattle.tier_safe.specs.Safe.{TierSafe}
use Rattle.tier_safe.specs.May.{MayAlter, MayStore, MayTell}
use Rattle.tier_safe.proofs.Steps.{StepGoes}
use Rattle.tier_safe.proofs.Entries.{id_in, told, told_follows, told_entry, add_entry, other_entry, fold_push}
use Rattle.tier_safe.proofs.Basics.{id_cases, one_some, not_finished, key_is}
use Rattle.tier_safe.proofs.Lineage.{stored_whole_grows, stored_whole_same}

-- the custom metadata of a packed copy
custom_packed : (copy : Copied) → copy.packed ≡ true → custom_of copy ≡ Some (layout_bytes (layout_of copy.parts))
custom_packed copy packed = rw packed refl

-- a copy whose objects all exist, with its entry
pub copied_stored_whole : (objects : Objects) (paths : List Path) (copy : Copied) (entry : Entry) → IsSource paths copy → IsEntryFor copy entry → entry.id ≡ copy.id
    → entry.custom ≡ custom_of copy → HasPutAll objects copy → IsStoredWhole objects paths entry
copied_stored_whole objects paths copy entry s e id told put = record {
  batches = s.copied.batches;
  line = copy.line;
  interval = copy.interval;
  describes = record {
    some = s.copied.some;
    is = subst (λ (n : ℕ). IsSegment n s.copied.batches) (sym e.start) s.copied.is;
    part = subst (λ (n : ℕ). IsPathPart paths n s.copied.batches copy.line) (sym e.start) s.part;
    last_is = rw (e.end, e.start) s.copied.last_is;
    map_is = e.map ∙ s.copied.epochs_are;
    max_ts_is = e.max_ts ∙ s.copied.max_ts_is;
    size_is = e.size ∙ ap length s.copied.bytes_are;
  };
  stand = λ n key at.
      put n key (rw (← e.partition, ← id, ← e.packed) at)
      ∙ ap (λ (parts : Parts). Some (part_in parts key.part)) s.copied.parts_are;
  custom = λ packed.
      (let one : copy.packed ≡ true = sym e.packed ∙ packed in
      subst (TellsParts entry.custom) s.copied.parts_are (record { fits = s.copied.packs one; is = told ∙ custom_packed copy one }));
}

-- an update to another state that leaves an entry finished has left it as it was
pub told_finished : (broker : BrokerId) (event_ts : ℤ) (state : State) (custom : Option Blob) (x : Entry) → state ≢ CopyFinished → (told broker event_ts state custom x).state ≡ CopyFinished
    → told broker event_ts state custom x ≡ x
told_finished broker event_ts state custom x ne = by (is_some (next_state (Some x.state) state))
  where
    by : (t : Bool) → (cond t (updated broker event_ts state custom x) x).state ≡ CopyFinished → cond t (updated broker event_ts state custom x) x ≡ x
    by true is = absurd (ne is)
    by false is = refl

-- a copy's end that leaves an entry finished which wasn't found it started
pub told_copied : (broker : BrokerId) (event_ts : ℤ) (custom : Option Blob) (x : Entry) → x.state ≢ CopyFinished → (told broker event_ts CopyFinished custom x).state ≡ CopyFinished → x.state ≡ CopyStarted
told_copied broker event_ts custom x = by x.state
  where
    by : (s : State) → s ≢ CopyFinished → (cond (is_some (next_state (Some s) CopyFinished)) (updated broker event_ts CopyFinished custom x) (record x { state = s })).state ≡ CopyFinished → s ≡ CopyStarted
    by CopyStarted ne is = refl
    by CopyFinished ne is = absurd (ne refl)
    by DeleteStarted ne is = absurd (cc)
    by DeleteFinished ne is = absurd (cc)

-- a copy in progress that is recorded as finished has the custom metadata that is reported
told_custom : (broker : BrokerId) (event_ts : ℤ) (custom : Option Blob) (x : Entry) → x.state ≡ CopyStarted → (told broker event_ts CopyFinished custom x).custom ≡ custom
told_custom broker event_ts custom x started = rw started refl

-- after a metadata event of an expiry an entry of its id that is finished was so
expired_stored_whole : (expired_segment : ExpiredSegment) (origin : EventOrigin) (state : State) (a : ℕ) (next : ExpiryNext) (c : Scene) (p : Plain) (entry : Entry) → state ≢ CopyFinished
    → slice_get c.desk a ≡ Some (Expires expired_segment next) → TierSafe c p
    → entry_of expired_segment.id (recorded (fold c.notes) (note_of expired_segment origin state)) ≡ Some entry → entry.state ≡ CopyFinished → IsStoredWhole c.objects p.paths entry
expired_stored_whole expired_segment origin state a next c p entry ne actor_state h is done =
    let s = h.deletions.each a expired_segment next actor_state in
    let new = told_entry (fold c.notes) expired_segment.id origin.broker origin.now state (bare_custom expired_segment.packed) s.entry s.there in
    let one = one_some (entry_of expired_segment.id (recorded (fold c.notes) (note_of expired_segment origin state))) entry (told origin.broker origin.now state (bare_custom expired_segment.packed) s.entry) is new in
    let same = told_finished origin.broker origin.now state (bare_custom expired_segment.packed) s.entry ne (subst (λ (y : Entry). y.state ≡ CopyFinished) one done) in
    let was : entry ≡ s.entry = one ∙ same in
    h.finished expired_segment.id entry (subst (λ (y : Entry). entry_of expired_segment.id (fold c.notes) ≡ Some y) (sym was) s.there) done

-- after a metadata event, an entry of its id is finished
told_stored_whole : (telling : Telling) (a : ℕ) (origin : EventOrigin) (c : Scene) (p : Plain) (entry : Entry) → MayTell a telling c → TierSafe c p
    → entry_of (id_in (note_for telling origin)) (recorded (fold c.notes) (note_for telling origin)) ≡ Some entry → entry.state ≡ CopyFinished
    → IsStoredWhole c.objects p.paths entry
told_stored_whole (CopyStarts copy) a origin c p entry m h is done =
    let e = add_entry (fold c.notes) (copied_entry copy origin) refl (h.copies.each a copy _ m.actor_state).at in
    let one = one_some (entry_of copy.id (recorded (fold c.notes) (start_note copy origin))) entry (copied_entry copy origin) is e in
    absurd (cc (ap (λ (x : Entry). x.state) one, done))
told_stored_whole (CopyEnds copy) a origin c p entry m h is done =
    let s = h.copies.each a copy _ m.actor_state in
    let x = s.at.entry in
    let new = told_entry (fold c.notes) copy.id origin.broker origin.now CopyFinished (custom_of copy) x s.at.there in
    let one = one_some (entry_of copy.id (recorded (fold c.notes) (finish_note copy origin))) entry (told origin.broker origin.now CopyFinished (custom_of copy) x) is new in
    let f = told_follows origin.broker origin.now CopyFinished (custom_of copy) x in
    let started = told_copied origin.broker origin.now (custom_of copy) x s.at.state.0 (subst (λ (y : Entry). y.state ≡ CopyFinished) one done) in
    subst (λ (y : Entry). IsStoredWhole c.objects p.paths y) (sym one)
    (copied_stored_whole c.objects p.paths copy (told origin.broker origin.now CopyFinished (custom_of copy) x) s.source (record {
      partition = f.partition ∙ s.at.is.partition;
      start = f.start ∙ s.at.is.start;
      end = f.end ∙ s.at.is.end;
      map = f.map ∙ s.at.is.map;
      size = f.size ∙ s.at.is.size;
      max_ts = f.max_ts ∙ s.at.is.max_ts;
      packed = f.packed ∙ s.at.is.packed;
    }) (f.id ∙ found_id copy.id (fold c.notes) x s.at.there) (told_custom origin.broker origin.now (custom_of copy) x started) (s.at.state.1 started))
told_stored_whole (ExpiryStarts expired_segment) a origin c p entry m h is done =
    expired_stored_whole expired_segment origin DeleteStarted a _ c p entry (λ e. absurd (cc (e))) m.actor_state h is done
told_stored_whole (ExpiryEnds expired_segment) a origin c p entry m h is done =
    expired_stored_whole expired_segment origin DeleteFinished a _ c p entry (λ e. absurd (cc (e))) m.actor_state h is done

-- the entry of a segment, by one of its keys
under : (partition : PartitionId) (id : SegmentId) (packed : Bool) (n : ℕ) (key : ObjectKey) (es : List Entry) (x : Entry) → slice_get (keys_of partition id packed) n ≡ Some key
    → entry_of id es ≡ Some x → entry_of key.id es ≡ Some x
under partition id packed n key es x at there = ap (λ (k : ObjectKey). entry_of k.id es) (key_is partition id packed n key at) ∙ there

-- what a command puts or takes away isn't a finished copy's
pub stored_unfinished : (storing : Storing) (a : ℕ) (objects : Objects) (c : Scene) (p : Plain) → MayStore a storing objects c → TierSafe c p
    → (x : Entry) × (entry_of (key_for storing).id (fold c.notes) ≡ Some x) × (x.state ≢ CopyFinished)
stored_unfinished (Puts copy n key) a objects c p m h =
    let e = (h.copies.each a copy _ m.actor_state).at in
    (e.entry, under copy.partition copy.id copy.packed n key (fold c.notes) e.entry m.key e.there, e.state.0)
stored_unfinished (Undoes copy n key) a objects c p m h =
    let e = (h.copies.each a copy _ m.actor_state).at in
    (e.entry, under copy.partition copy.id copy.packed n key (fold c.notes) e.entry m.key e.there, not_finished e.entry.state e.state)
stored_unfinished (Deletes expired_segment n key) a objects c p m h =
    let e = h.deletions.each a expired_segment _ m.actor_state in
    (e.entry, under expired_segment.partition expired_segment.id expired_segment.packed n key (fold c.notes) e.entry m.key e.there, not_finished e.entry.state e.snapshot)

pub finished_kept : (change : Change) (c : Scene) (p : Plain) → MayAlter change c p → TierSafe c p
    → FinishedStand (effect change c).objects p.paths (fold (effect change c).notes)
finished_kept (Steps tier_views) c p m h = absurd m
finished_kept (Moves a move) c p m h = h.finished
finished_kept (Chooses a b tier_view copy) c p m h = h.finished
finished_kept (Tells a telling origin) c p m h = λ id entry is done.
    let new = sym (ap (entry_of id) (fold_push c.notes (note_for telling origin))) ∙ is in
    elim (id_cases (id_in (note_for telling origin)) id) [
      | inl own ↦ told_stored_whole telling a origin c p entry m h (ap (λ (i : SegmentId). entry_of i (recorded (fold c.notes) (note_for telling origin))) own ∙ new) done
      | inr other ↦ h.finished id entry (sym (other_entry (fold c.notes) (note_for telling origin) id other) ∙ new) done
    ]
finished_kept (Stores a storing objects) c p m h = λ id entry is done.
    let x = stored_unfinished storing a objects c p m h in
    let id_is = found_id id (fold c.notes) entry is in
    let apart : (key_for storing).id ≢ entry.id =
    λ e. x.2 (ap (λ (y : Entry). y.state) (one_some (entry_of id (fold c.notes)) x.0 entry (ap (λ (i : SegmentId). entry_of i (fold c.notes)) (sym (e ∙ id_is)) ∙ x.1) is) ∙ done) in
    stored_whole_same c.objects objects p.paths entry
    (λ n key at. m.made.others key (λ e. apart (sym (ap (λ (k : ObjectKey). k.id) e) ∙ ap (λ (k : ObjectKey). k.id) (key_is entry.partition entry.id entry.packed n key at))))
    (h.finished id entry is done)
finished_kept (Sees b tier_view view) c p m h = h.finished
finished_kept (Caches b tier_view cache) c p m h = h.finished
finished_kept (Drops b tier_view start dropping) c p m h = h.finished

-- so does a step
pub finished_stepped : (tier_views : List BrokerTierView) (c : Scene) (p q : Plain) → StepGoes tier_views c p q → TierSafe c p → FinishedStand c.objects q.paths (fold c.notes)
finished_stepped tier_views c p q m h = λ id entry is done. stored_whole_grows c.objects p.paths q.paths entry m.grows.paths (h.finished id entry is done)
