-- Each change leaves the metadata events their rules, and so the entries theirs.
use Rattle.std.proofs.Common.{◌≡◌, ◌≢◌, inl, inr, sym, subst, refl, ℕ, ◌+◌, ◌<◌, ◌≤◌, ◌^◌, ◌==◌, Bool, true, false, cond, List, [], ◌∷◌, ◌++◌, Option, Some, None, slice_get, slice_set, arith}
use Rattle.std.specs.Prelude.{is_some}
use Rattle.std.specs.List.{AllByRecursion}
use Rattle.std.proofs.lemmas.Bool.Decides.{nat_tests}
use mathlib.Core.List.{IsPrefix}
use Rattle.tier_base.specs.declared.plain.State.{State}
use Rattle.tier_base.specs.declared.plain.State.TheVariants.{DeleteStarted, DeleteFinished}
use Rattle.tier_base.specs.Key.{IsId}
use Rattle.log_terms.specs.Batch.{base_of, last_of, epoch_of}
use Rattle.log_terms.specs.Line.{line_of, line_after}
use Rattle.log_terms.specs.Log.{IsConsecutive, end_from}
use Rattle.log_terms.proofs.Lists.{get-set}
use Rattle.log_terms.proofs.Logs.{end_above}
use Rattle.epoch_line.specs.Line.{IsLine}
use Rattle.segment_file.specs.Segment.{EpochsRise}
use Rattle.tier_base.specs.declared.object_key.ObjectKey.{ObjectKey}
use Rattle.segment_meta.specs.declared.note.Note.{Note}
use Rattle.segment_meta.specs.declared.note.Note.TheVariants.{Add, Update}
use Rattle.segment_meta.specs.declared.note.Entry.{Entry}
use Rattle.segment_meta.specs.Rules.{IsNote, MayHaveCustom as MayTellCustom, bare_custom}
use Rattle.segment_meta.specs.Steps.{next_state}
use Rattle.object_store.specs.Content.{Objects}
use Rattle.meta_log.specs.declared.event_origin.EventOrigin.{EventOrigin}
use Rattle.plain_log.specs.declared.state.State.{State as Plain}
use Rattle.remote_view.specs.Fold.{state_of, recorded, changed, updated, folded_from, fold, AreEntriesValid, AreDistinct}
use Rattle.remote_view.proofs.Changes.{change_keeps, kept_push}
use Rattle.remote_view.proofs.Folding.{fold_distinct}
use Rattle.copy_task.specs.Copying.{Copied, keys as copy_keys, IsCopied, start_note}
use Rattle.copy_task.specs.declared.turn.CopyStep.{CopyStep as CopyNext}
use Rattle.tier_safe.specs.Scene.{TierTask, Copies, Scene}
use Rattle.tier_safe.specs.Changes.{Move, Leaves, Overtakes, ChoosesExpired, Wants, Refreshes, Lines, Asks, Finds, Skips, Reads, moved, Telling, CopyStarts, CopyEnds, ExpiryStarts, ExpiryEnds, after_telling, note_for, Storing, Puts, Undoes, Deletes, after_storing, undone, Change, Steps, Moves, Chooses, Tells, Stores, Sees, Caches, Drops, effect}
use Rattle.tier_safe.specs.Views.{IsNoteRight, NotesStand}
use Rattle.tier_safe.specs.Safe.{TierSafe}
use Rattle.tier_safe.specs.Moves.{MayMove}
use Rattle.tier_safe.specs.May.{MayTell, MayStore, MayAlter}
use Rattle.copy_task.proofs.Mapping.{ordered, bounded, is_map}
use Rattle.copy_task.proofs.Telling.{custom_may}

-- the line of batches whose epochs never fall is a line
rising : (e s n : ℕ) (bs : List (List ℕ)) → e < 2 ^ 31 → s < n → IsConsecutive n bs → EpochsRise e bs → end_from n bs ≤ 2 ^ 62 → IsLine ((e, s) ∷ line_after e bs)
rising e s n [] fits low c rise far = (fits, omega (arith, low, far), tt, tt)
rising e s n (b ∷ bs) fits low c rise far =
    by (epoch_of b == e) refl
    (λ same. rising e s (last_of b + 1) bs fits (omega (arith, low, c.0)) c.1 (subst (λ (k : ℕ). EpochsRise k bs) same rise.2) far)
    (rising (epoch_of b) (base_of b) (last_of b + 1) bs rise.1 (omega arith) c.1 rise.2 far)
  where
    by : (t : Bool) → (epoch_of b == e) ≡ t → (epoch_of b ≡ e → IsLine ((e, s) ∷ line_after e bs)) → IsLine ((epoch_of b, base_of b) ∷ line_after (epoch_of b) bs)
        → IsLine ((e, s) ∷ cond t (line_after e bs) ((epoch_of b, base_of b) ∷ line_after (epoch_of b) bs))
    by true is one more = one (grind (arith, nat_tests, is))
    by false is one more =
        let up = end_above (last_of b + 1) bs c.1 in
        let ne : epoch_of b ≢ e = grind (arith, nat_tests, is) in
        let lt : e < epoch_of b = omega (arith, rise.0, ne) in
        (fits, omega (arith, low, c.0, up, far), (lt, omega (arith, low, c.0)), more)

pub line_rises : (n : ℕ) (bs : List (List ℕ)) → IsConsecutive n bs → EpochsRise 0 bs → end_from n bs ≤ 2 ^ 62 → IsLine (line_of bs)
line_rises n [] c rise far = tt
line_rises n (b ∷ bs) c rise far = rising (epoch_of b) (base_of b) (last_of b + 1) bs rise.1 (omega arith) c.1 rise.2 far

-- the metadata event that a copy starts keeps the rules
pub started_right : (copy : Copied) (origin : EventOrigin) → IsCopied copy → IsId copy.id → IsNoteRight (start_note copy origin)
started_right copy origin is id =
    let line : IsLine copy.segment.epochs = subst IsLine (sym is.epochs_are) (line_rises copy.segment.base is.batches is.is.consecutive is.is.epochs is.is.low) in
    record {
      is = record { started = refl; ordered = ordered copy is; bounded = bounded copy is; map = is_map copy is line; bare = refl };
      id = id;
    }

-- a bare custom metadata may be in any metadata event
bare_right : (state : State) (packed : Bool) → MayTellCustom state (bare_custom packed)
bare_right state false = tt
bare_right state true = record { few = omega arith; bare = λ ne. refl }

-- so do a command's metadata events
told_right : (telling : Telling) (a : ℕ) (origin : EventOrigin) (c : Scene) (p : Plain) → MayTell a telling c → TierSafe c p → NotesStand c.notes c.desk
    → IsNoteRight (note_for telling origin)
told_right (CopyStarts copy) a origin c p m h n = started_right copy origin (h.copies.each a copy _ m.actor_state).source.copied (n.ids a copy _ m.actor_state)
told_right (CopyEnds copy) a origin c p m h n = record { is = (λ e. absurd (cc (e)), custom_may copy); id = tt }
told_right (ExpiryStarts expired_segment) a origin c p m h n = record { is = (λ e. absurd (cc (e)), bare_right DeleteStarted expired_segment.packed); id = tt }
told_right (ExpiryEnds expired_segment) a origin c p m h n = record { is = (λ e. absurd (cc (e)), bare_right DeleteFinished expired_segment.packed); id = tt }

-- the entries of such metadata events

right_note : (notes : List Note) → AllByRecursion IsNoteRight notes → AllByRecursion IsNote notes
right_note [] h = tt
right_note (note ∷ notes) h = (h.0.is, right_note notes h.1)

right_prefix : (notes before : List Note) → IsPrefix before notes → AllByRecursion IsNoteRight notes → AllByRecursion IsNoteRight before
right_prefix notes [] p h = tt
right_prefix [] (b ∷ before) p h = absurd (cc (p.1))
right_prefix (note ∷ notes) (b ∷ before) p h =
    let same : b ≡ note = cc (p.1) in
    (subst IsNoteRight (sym same) h.0, right_prefix notes before (p.0, cc (p.1)) h.1)

right_push : (notes : List Note) (note : Note) → AllByRecursion IsNoteRight notes → IsNoteRight note → AllByRecursion IsNoteRight (notes ++ note ∷ [])
right_push [] note h k = (k, tt)
right_push (first ∷ notes) note h k = (h.0, right_push notes note h.1 k)

recorded_kept : (es : List Entry) (note : Note) → IsNoteRight note → AreEntriesValid es → AreEntriesValid (recorded es note)
recorded_kept es (Add e) k h = by (is_some (next_state (state_of e.id es) e.state))
  where
    by : (t : Bool) → AreEntriesValid (cond t (es ++ e ∷ []) es)
    by true = kept_push es e h (record { id = k.id; ordered = k.is.ordered; bounded = k.is.bounded; map = k.is.map })
    by false = h
recorded_kept es (Update id broker event_ts state custom) k h = by (is_some (next_state (state_of id es) state))
  where
    by : (t : Bool) → AreEntriesValid (cond t (changed id (updated broker event_ts state custom) es) es)
    by true = change_keeps id broker event_ts state custom es h
    by false = h

folded_kept : (es : List Entry) (notes : List Note) → AllByRecursion IsNoteRight notes → AreEntriesValid es → AreEntriesValid (folded_from es notes)
folded_kept es [] k h = h
folded_kept es (note ∷ notes) k h = folded_kept (recorded es note) notes k.1 (recorded_kept es note k.0 h)

-- the entries of a view keep their rules, and no two have one id
pub seen_kept : (notes before : List Note) (desk : List TierTask) → NotesStand notes desk → IsPrefix before notes → AreEntriesValid (fold before) × AreDistinct (fold before)
seen_kept notes before desk n p =
    let r = right_prefix notes before p n.right in
    (folded_kept [] before r tt, fold_distinct before (right_note before r))

-- actors' states

abbrev IdTask : TierTask → Type 0
IdTask (Copies copy next) = IsId copy.id
IdTask other = Unit {0}

ids_set : (desk : List TierTask) (a : ℕ) (w : TierTask) → IdTask w → ((k : ℕ) (copy : Copied) (next : CopyNext) → slice_get desk k ≡ Some (Copies copy next) → IsId copy.id)
    → (k : ℕ) (copy : Copied) (next : CopyNext) → slice_get (slice_set desk a w) k ≡ Some (Copies copy next) → IsId copy.id
ids_set desk a w own h k copy next at = elim (get-set desk a w k (Copies copy next) at) [
  | inl here ↦ subst IdTask (sym here.1) own
  | inr there ↦ h k copy next there.1
]

moved_id : (move : Move) (a : ℕ) (c : Scene) (p : Plain) → MayMove a move c p → NotesStand c.notes c.desk → IdTask (moved move)
moved_id Leaves a c p m n = tt
moved_id (Overtakes copy) a c p m n = n.ids a copy _ m.actor_state
moved_id (ChoosesExpired b expired_segment) a c p m n = tt
moved_id (Wants rebuild) a c p m n = tt
moved_id (Refreshes rebuild) a c p m n = tt
moved_id (Lines rebuild line) a c p m n = tt
moved_id (Asks sought) a c p m n = tt
moved_id (Finds sought piece) a c p m n = tt
moved_id (Skips sought offset) a c p m n = tt
moved_id (Reads sought from) a c p m n = tt

told_id : (telling : Telling) (a : ℕ) (c : Scene) → MayTell a telling c → NotesStand c.notes c.desk → IdTask (after_telling telling)
told_id (CopyStarts copy) a c m n = n.ids a copy _ m.actor_state
told_id (CopyEnds copy) a c m n = n.ids a copy _ m.actor_state
told_id (ExpiryStarts expired_segment) a c m n = tt
told_id (ExpiryEnds expired_segment) a c m n = tt

undone_id : (copy : Copied) (n : ℕ) (next : Option ObjectKey) → IsId copy.id → IdTask (undone copy n next)
undone_id copy n None id = tt
undone_id copy n (Some key) id = id

stored_id : (storing : Storing) (a : ℕ) (objects : Objects) (c : Scene) → MayStore a storing objects c → NotesStand c.notes c.desk → IdTask (after_storing storing)
stored_id (Puts copy k key) a objects c m n = n.ids a copy _ m.actor_state
stored_id (Undoes copy k key) a objects c m n = undone_id copy (k + 1) (slice_get (copy_keys copy) (k + 1)) (n.ids a copy _ m.actor_state)
stored_id (Deletes expired_segment k key) a objects c m n = tt

pub notes_kept : (change : Change) (c : Scene) (p : Plain) → MayAlter change c p → TierSafe c p → NotesStand (effect change c).notes (effect change c).desk
notes_kept (Steps tier_views) c p m h = absurd m
notes_kept (Moves a move) c p m h = record { right = h.notes.right; ids = ids_set c.desk a (moved move) (moved_id move a c p m h.notes) h.notes.ids }
notes_kept (Chooses a b tier_view copy) c p m h = record { right = h.notes.right; ids = ids_set c.desk a _ m.fits h.notes.ids }
notes_kept (Tells a telling origin) c p m h = record {
  right = right_push c.notes (note_for telling origin) h.notes.right (told_right telling a origin c p m h h.notes);
  ids = ids_set c.desk a (after_telling telling) (told_id telling a c m h.notes) h.notes.ids;
}
notes_kept (Stores a storing objects) c p m h =
    record { right = h.notes.right; ids = ids_set c.desk a (after_storing storing) (stored_id storing a objects c m h.notes) h.notes.ids }
notes_kept (Sees b tier_view view) c p m h = h.notes
notes_kept (Caches b tier_view cache) c p m h = h.notes
notes_kept (Drops b tier_view start dropping) c p m h = h.notes
