-- With which events the images of a disk open that a call leaves.
use Rattle.std.proofs.Common.{◌≡◌, ◌∙◌, ◌⊎◌, inl, inr, sym, ap, subst, refl, true, false, ℕ, Bool, List, [], ◌∷◌, ◌++◌, Option, None, IsTrue}
use Rattle.tier_base.specs.Device.{Fate, Went, MayBeDone}
use Rattle.disk_model.specs.Content.{Content, Files, Image, Lawful, Keeps, LeavesOnly}
use Rattle.disk_model.specs.Memory.{IsEmptyDisk}
use Rattle.segment_meta.specs.declared.note.Note.{Note}
use Rattle.meta_log.specs.Content.{Left, LeavesTold, AppendsNote, appended_if}
use Rattle.meta_log.specs.Content as log
use Rattle.meta_log.specs.Call.{call_code}
use Rattle.meta_log.specs.declared.call.MetaCall.TheVariants.{Append}
use Rattle.device_tally.specs.Tally.{Counts, control_of}
use Rattle.meta_log_file.specs.Notes.{GateAt, OpensWithNotes}
use Rattle.meta_log_file.specs.Crash.{Reopens, OpensLike}
use Rattle.meta_log_file.specs.Log.{IsDone}
use Rattle.meta_log_file.specs.Told.{notes_told, told_of, MayOpenWith}
use Rattle.tier_base.specs.declared.plain.FileName.{FileName}
use Rattle.tier_base.specs.declared.plain.FileName.TheVariants as file
use Rattle.tier_base.specs.Told.{bytes_in}
use Rattle.meta_log_file.proofs.Telling.{opens_told, opens_once, disk_told}
use Rattle.meta_log_file.proofs.Holding.{told_same, notes_same}

-- images that open as ones of before
pub like_left : (d m : Content) (laws_m : Lawful m) → LeavesOnly d m (OpensLike d) → notes_told m ≡ notes_told d → (l : List Note) → Left (told_of m) l → Left (told_of d) l
like_left d m laws_m since same l (inl is) = inl (is ∙ same)
like_left d m laws_m since same l (inr (c, image, o)) =
    let x = since.each c (laws_m.earlier d.moment m.moment c since.later image) in
    inr (x.0, x.1, subst (OpensWithNotes x.0) (opens_once c x.2.0 l x.2.2 o) x.2.1)

-- no other images
pub kept_left : (d m : Content) → Keeps d m → notes_told m ≡ notes_told d → (l : List Note) → Left (told_of m) l → Left (told_of d) l
kept_left d m keeps same l (inl is) = inl (is ∙ same)
kept_left d m keeps same l (inr (c, image, o)) = inr (c, keeps.images c image, o)

-- each image opens with these events
pub opens_left : (n : Content) (notes : List Note) → notes_told n ≡ notes → ((c : Files) → Image n c → OpensWithNotes c notes) → (l : List Note) → Left (told_of n) l → l ≡ notes
opens_left n notes told all l (inl is) = is ∙ told
opens_left n notes told all l (inr (c, image, o)) = opens_once c l notes o (all c image)

pub durable_left : (n : Content) → ((c : Files) → Image n c → OpensWithNotes c (notes_told n)) → LeavesTold (told_of n)
durable_left n all l left = opens_left n (notes_told n) refl all l left

-- a call that didn't go and puts no event
pub undone : (fate : Fate) → (fate ≡ Went → ⊥) → IsDone fate false
undone fate not = record { went = λ went. absurd (not went); dry = λ dry. refl }

pub grows_left : (d m : Content) (note : Note) (fate : Fate) → (fate ≡ Went → ⊥) → m.is_observable ≡ d.is_observable → notes_told m ≡ notes_told d → ((l : List Note) → Left (told_of m) l → Left (told_of d) l) → AppendsNote note (IsDone fate) (told_of d) (told_of m)
grows_left d m note fate not is_observable same left = record { is_observable = is_observable; notes = λ t. (false, undone fate not, same); left = λ t l at. inl (undone fate not, left l at) }

-- a call that puts an event, after one that changes nothing
pub grows_behind : (d m n : Content) (note : Note) (fate : Fate) → m.is_observable ≡ d.is_observable → notes_told m ≡ notes_told d → ((l : List Note) → Left (told_of m) l → Left (told_of d) l) → AppendsNote note (IsDone fate) (told_of m) (told_of n)
    → AppendsNote note (IsDone fate) (told_of d) (told_of n)
grows_behind d m n note fate is_observable same left g = record {
  is_observable = g.is_observable ∙ is_observable;
  notes = λ t. (let x = g.notes (subst IsTrue (sym is_observable) t) in (x.0, x.1, subst (λ (l : List Note). notes_told n ≡ appended_if x.0 note l) same x.2));
  left = λ t l at. more (g.left (subst IsTrue (sym is_observable) t) l at);
}
  where
    more : {l : List Note} → (IsDone fate false × Left (told_of m) l) ⊎ (IsDone fate true × (l ≡ notes_told m ++ note ∷ [])) → (IsDone fate false × Left (told_of d) l) ⊎ (IsDone fate true × (l ≡ notes_told d ++ note ∷ []))
    more {l} (inl (done, at)) = inl (done, left l at)
    more {l} (inr (done, is)) = inr (done, subst (λ (k : List Note). l ≡ k ++ note ∷ []) same is)

-- a call of the disk that changes nothing
told_kept : (d m : Content) → Keeps d m → notes_told m ≡ notes_told d
told_kept d m keeps = told_same d m keeps.is_observable (λ t. notes_same m.files d.files (keeps.files file.Gate) (keeps.files file.Notes))

pub keeps_told : (d m : Content) → Keeps d m → log.Keeps (told_of d) (told_of m)
keeps_told d m keeps = record { is_observable = keeps.is_observable; notes = told_kept d m keeps; left = kept_left d m keeps (told_kept d m keeps) }

pub grows_kept : (d m : Content) (note : Note) (fate : Fate) → (fate ≡ Went → ⊥) → Keeps d m → AppendsNote note (IsDone fate) (told_of d) (told_of m)
grows_kept d m note fate not keeps = grows_left d m note fate not keeps.is_observable (told_kept d m keeps) (kept_left d m keeps (told_kept d m keeps))

-- as the log's counts have it, of which no plan decides
pub grows_for : (counts : Counts) (a b : log.Content) (note : Note) (fate : Fate) → AppendsNote note (IsDone fate) a b → AppendsNote note (MayBeDone Append fate (control_of call_code counts [])) a b
grows_for counts a b note fate g = record { is_observable = g.is_observable; notes = λ t. (let x = g.notes t in (x.0, may x.0 x.1, x.2)); left = λ t l at. more (g.left t l at) }
  where
    may : (done : Bool) → IsDone fate done → MayBeDone Append fate (control_of call_code counts []) done
    may done is = record { went = is.went; dry = is.dry; planned = λ scripted. absurd cc }

    more : {l : List Note} → (IsDone fate false × Left a l) ⊎ (IsDone fate true × (l ≡ a.notes ++ note ∷ []))
        → (MayBeDone Append fate (control_of call_code counts []) false × Left a l) ⊎ (MayBeDone Append fate (control_of call_code counts []) true × (l ≡ a.notes ++ note ∷ []))
    more (inl (done, at)) = inl (may false done, at)
    more (inr (done, is)) = inr (may true done, is)

-- an opening leaves no events but those that might have been left before
pub open_left : (d n : Content) (laws : Lawful d) (laws_n : Lawful n) → IsTrue d.is_observable → LeavesOnly d n (OpensLike d) → OpensWithNotes d.files (notes_told n) → (l : List Note) → Left (told_of n) l → MayOpenWith d l
open_left d n laws laws_n is_observable since opened l (inl is) = (d.files, laws.reads is_observable, subst (OpensWithNotes d.files) (sym is) opened)
open_left d n laws laws_n is_observable since opened l (inr (c, image, o)) =
    let x = since.each c (laws_n.earlier d.moment n.moment c since.later image) in
    (x.0, x.1, subst (OpensWithNotes x.0) (opens_once c x.2.0 l x.2.2 o) x.2.1)

-- an opening keeps the events
pub opening_keeps : (d n : Content) (laws : Lawful d) (laws_n : Lawful n) → n.is_observable ≡ d.is_observable → (IsTrue d.is_observable → (l : List Note) → OpensWithNotes d.files l → OpensWithNotes n.files l) → (Reopens d → LeavesOnly d n (OpensLike d)) → Reopens d
    → log.Keeps (told_of d) (told_of n)
opening_keeps d n laws laws_n is_observable same since reopens =
    let notes : notes_told n ≡ notes_told d = told_same d n is_observable (λ t. let o = reopens d.files (laws.reads t) in opens_told n.files o.0 (same t o.0 o.1) ∙ sym (opens_told d.files o.0 o.1)) in
    record { is_observable = is_observable; notes = notes; left = like_left d n laws_n (since reopens) notes }

-- an empty disk has none
pub empty_opens : (c : Files) → ((n : FileName) → c n ≡ None) → OpensWithNotes c []
empty_opens c none = record {
  told = tt;
  gate = subst (λ (held : Option (List ℕ)). GateAt held 0) (sym (none file.Gate)) refl;
  front = record { behind = []; is = ap bytes_in (none file.Notes) };
}

pub empty_has_none : (d : Content) → IsEmptyDisk d → Reopens d × ((notes_told d ≡ []) × LeavesTold (told_of d))
empty_has_none d e =
    let none : notes_told d ≡ [] = disk_told d [] e.is_observable (empty_opens d.files e.files) in
    (λ c image. ([], empty_opens c (e.images c image)), (none, λ l. left_none l none))
  where
    left_none : (l : List Note) → notes_told d ≡ [] → Left (told_of d) l → l ≡ notes_told d
    left_none l none (inl is) = is
    left_none l none (inr (c, image, o)) = opens_once c l [] o (empty_opens c (e.images c image)) ∙ sym none
