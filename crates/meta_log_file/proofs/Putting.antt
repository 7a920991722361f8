-- What an append makes of an open log.
use Rattle.std.proofs.Common.{◌≡◌, ◌∙◌, sym, ap, subst, refl, inl, inr, ⊎_elim, ◌⊎◌, ℕ, ◌+◌, ◌<◌, ◌^◌, true, false, List, [], ◌∷◌, ◌++◌, length, Some, None, IsTrue, arith, zero-add, length-append}
use Rattle.tier_base.specs.declared.plain.FileName.TheVariants as file
use Rattle.tier_base.specs.Device.{Fate, Went, Fault, Dry}
use Rattle.disk_model.specs.Content.{Content, Files, Image, Lawful, Keeps, LeavesOnly}
use Rattle.segment_meta.specs.declared.note.Note.{Note}
use Rattle.meta_log.specs.Content.{Left, AppendsNote}
use Rattle.meta_log_file.specs.declared.marks.Tail.{Tail}
use Rattle.meta_log_file.specs.declared.marks.Tail.TheVariants.{Exact, Unsure}
use Rattle.meta_log_file.specs.Notes.{framed, frames, IsWritable, AreWritable, HasFront, OpensWithNotes}
use Rattle.meta_log_file.specs.Ends.{ends_from, start_of}
use Rattle.meta_log_file.specs.Crash.{OpensLike, Appending}
use Rattle.meta_log_file.specs.Stands.{HoldsNotes, HoldsOr, AllHold, EndsWith, HasNotes, IsSure}
use Rattle.meta_log_file.specs.Writing.{LeavesNotes, LeavesOr, WritesNote, Commits}
use Rattle.meta_log_file.specs.Log.{IsDone}
use Rattle.meta_log_file.specs.Told.{notes_told, told_of}
use Rattle.meta_log_file.proofs.Frames.{frames_more, told_append}
use Rattle.meta_log_file.proofs.Walks.{ends_more}
use Rattle.meta_log_file.proofs.Moments.{leaves_weaker, leaves_then}
use Rattle.meta_log_file.proofs.Telling.{disk_told, opens_once}
use Rattle.meta_log_file.proofs.Leaving.{undone, opens_left, grows_left}
use Rattle.meta_log_file.proofs.Holding.{note_choice, holds_opens, or_opens, last_end, ends_len}
use Rattle.meta_log_file.proofs.Written.{leaves_started, leaves_on, sure_all, keeps_all}

-- an open log whose gate is sure, and an event that is to be put
pub record Ready (d : Content) (ends : List ℕ) (notes : List Note) (note : Note) (next : ℕ) : Type 0 where
  pub laws : Lawful d
  pub all : AllHold d notes
  pub told : AreWritable notes
  pub is : IsWritable note
  pub ends_are : ends ≡ ends_from 0 notes
  pub low : length (frames notes) < 2 ^ 64
  pub next_is : next ≡ length (frames (notes ++ note ∷ []))
  pub next_low : next < 2 ^ 64

pub ready : (d : Content) (laws : Lawful d) (ends : List ℕ) (tail : Tail) (h : HasNotes d ends tail) (note : Note) (bytes : List ℕ) (end next : ℕ) → IsSure tail → IsWritable note → bytes ≡ framed note
    → end ≡ start_of ends (length ends) → next ≡ end + length bytes → next < 2 ^ 64 → Ready d ends h.notes note next
ready d laws ends tail h note bytes end next sure told is end_is next_is low =
    let last = last_end ends h.notes h.ends_are in
    let long = ap length (frames_more h.notes note) ∙ length-append (frames h.notes) (framed note) in
    let size = ap length is in
    record {
      laws = laws;
      all = sure_all d h.notes tail h.stands sure;
      told = h.told;
      is = told;
      ends_are = h.ends_are;
      low = h.low;
      next_is = omega (arith, last, long, size, end_is, next_is);
      next_low = low;
    }

-- the disk reports the events that each image has
all_told : (d : Content) (laws : Lawful d) (notes : List Note) → AllHold d notes → AreWritable notes → length (frames notes) < 2 ^ 64 → IsTrue d.is_observable → notes_told d ≡ notes
all_told d laws notes all told low is_observable = disk_told d notes is_observable (holds_opens notes d.files told low (all d.files (laws.reads is_observable)))

-- and an image with them opens like before
leaves_like : (d : Content) (laws : Lawful d) (notes : List Note) → AllHold d notes → AreWritable notes → length (frames notes) < 2 ^ 64 → (c : Files) → IsTrue d.is_observable → OpensWithNotes c notes → OpensLike d c
leaves_like d laws notes all told low c is_observable o = (d.files, laws.reads is_observable, (notes, holds_opens notes d.files told low (all d.files (laws.reads is_observable)), o))

-- what is left with the events is what an append may leave
holds_appending : (d : Content) (ends : List ℕ) (notes : List Note) (note : Note) (next : ℕ) → Ready d ends notes note next → (c : Files) → LeavesNotes d notes c → Appending d (notes_told d) note c
holds_appending d ends notes note next r c (is_observable, h) = inl (leaves_like d r.laws notes r.all r.told r.low c is_observable (holds_opens notes c r.told r.low h))

or_appending : (d : Content) (ends : List ℕ) (notes : List Note) (note : Note) (next : ℕ) → Ready d ends notes note next → (c : Files) → LeavesOr d notes (notes ++ note ∷ []) c → Appending d (notes_told d) note c
or_appending d ends notes note next r c (is_observable, h) =
    let choice = note_choice notes note r.told r.is (omega (arith, r.next_is, r.next_low)) in
    let o = or_opens notes (notes ++ note ∷ []) c choice h in
    let opens = o.each c h refl in
    ⊎_elim
    (λ is. inl (leaves_like d r.laws notes r.all r.told r.low c is_observable (subst (OpensWithNotes c) is opens)))
    (λ is. inr (subst (λ (l : List Note). OpensWithNotes c (l ++ note ∷ [])) (sym (all_told d r.laws notes r.all r.told r.low is_observable)) (subst (OpensWithNotes c) is opens)))
    o.one_of

-- the event was written, or not
pub extended_since : (d m e : Content) (laws_m : Lawful m) (ends : List ℕ) (notes : List Note) (note : Note) (next : ℕ) (fate : Fate) → Ready d ends notes note next → Keeps d m → WritesNote notes note fate m e
    → LeavesOnly d e (Appending d (notes_told d) note)
extended_since d m e laws_m ends notes note next fate r keeps x =
    let first = leaves_on d d m laws_m notes keeps.is_observable (leaves_started d r.laws notes r.all) keeps.time (keeps_all d m notes keeps r.all) in
    let then = leaves_weaker m e (LeavesNotes m notes) (LeavesNotes d notes) (λ c (is_observable, h). (subst IsTrue keeps.is_observable is_observable, h)) x.since in
    leaves_weaker d e (LeavesNotes d notes) (Appending d (notes_told d) note) (holds_appending d ends notes note next r) (leaves_then d m e (LeavesNotes d notes) first then)

pub extended_has : (d e : Content) (ends now : List ℕ) (notes : List Note) (note : Note) (next : ℕ) (fate : Fate) (m : Content) → Ready d ends notes note next → WritesNote notes note fate m e → now ≡ ends → HasNotes e now (Unsure None)
extended_has d e ends now notes note next fate m r x same = record { notes = notes; told = r.told; ends_are = same ∙ r.ends_are; low = r.low; stands = x.images }

-- each image has the event after the others, and the gate before it
pub extended_or : (notes : List Note) (note : Note) (c : Files) → HoldsNotes notes c → HasFront (frames (notes ++ note ∷ [])) (c file.Notes) → HoldsOr notes (notes ++ note ∷ []) c
extended_or notes note c h front = record { gate = inl h.gate; front = front }

-- nothing was appended
pub grows_not : (d e : Content) (laws_e : Lawful e) (ends : List ℕ) (notes : List Note) (note : Note) (next : ℕ) (fate : Fate) → Ready d ends notes note next → e.is_observable ≡ d.is_observable → AllHold e notes → (fate ≡ Went → ⊥) → AppendsNote note (IsDone fate) (told_of d) (told_of e)
grows_not d e laws_e ends notes note next fate r same all not = record {
  is_observable = same;
  notes = λ is_observable. (false, undone fate not, told is_observable ∙ sym (was is_observable));
  left = λ is_observable l at. inl (undone fate not, inl (opens_left e notes (told is_observable) (λ c image. holds_opens notes c r.told r.low (all c image)) l at ∙ sym (was is_observable)));
}
  where
    told : IsTrue d.is_observable → notes_told e ≡ notes
    told is_observable = all_told e laws_e notes all r.told r.low (subst IsTrue (sym same) is_observable)

    was : IsTrue d.is_observable → notes_told d ≡ notes
    was is_observable = all_told d r.laws notes r.all r.told r.low is_observable

pub committed_has : (d e n : Content) (ends now : List ℕ) (notes : List Note) (note : Note) (next : ℕ) (fate : Fate) → Ready d ends notes note next → Commits notes (notes ++ note ∷ []) fate e n → now ≡ ends → HasNotes n now (Unsure (Some next))
committed_has d e n ends now notes note next fate r x same = record {
  notes = notes;
  told = r.told;
  ends_are = same ∙ r.ends_are;
  low = r.low;
  stands = record { note = note; told = r.is; end_is = r.next_is; low = r.next_low; images = x.images };
}

pub committed_since : (d m e n : Content) (laws_m : Lawful m) (ends : List ℕ) (notes : List Note) (note : Note) (next : ℕ) (fate : Fate) → Ready d ends notes note next → Keeps d m → WritesNote notes note Went m e → e.is_observable ≡ d.is_observable → Commits notes (notes ++ note ∷ []) fate e n
    → LeavesOnly d n (Appending d (notes_told d) note)
committed_since d m e n laws_m ends notes note next fate r keeps x same y =
    let then = leaves_weaker e n (LeavesOr e notes (notes ++ note ∷ [])) (LeavesOr d notes (notes ++ note ∷ [])) (λ c (is_observable, h). (subst IsTrue same is_observable, h)) y.since in
    leaves_then d e n (Appending d (notes_told d) note) (extended_since d m e laws_m ends notes note next Went r keeps x)
    (leaves_weaker e n (LeavesOr d notes (notes ++ note ∷ [])) (Appending d (notes_told d) note) (or_appending d ends notes note next r) then)

-- the events with the new one after them
more_told : (d n : Content) (laws_n : Lawful n) (ends : List ℕ) (notes : List Note) (note : Note) (next : ℕ) → Ready d ends notes note next → n.is_observable ≡ d.is_observable → HoldsOr notes (notes ++ note ∷ []) n.files → IsTrue d.is_observable
    → (notes_told n ≡ notes_told d) ⊎ (notes_told n ≡ notes_told d ++ note ∷ [])
more_told d n laws_n ends notes note next r same h is_observable =
    let choice = note_choice notes note r.told r.is (omega (arith, r.next_is, r.next_low)) in
    let o = or_opens notes (notes ++ note ∷ []) n.files choice h in
    let now = disk_told n o.with (subst IsTrue (sym same) is_observable) (o.each n.files h refl) in
    let was = all_told d r.laws notes r.all r.told r.low is_observable in
    ⊎_elim (λ is. inl (now ∙ is ∙ sym was)) (λ is. inr (now ∙ is ∙ ap (λ (l : List Note). l ++ note ∷ []) (sym was))) o.one_of

-- an image with these events or more of them opens with the one or the other
or_left : (d : Content) (ends : List ℕ) (notes : List Note) (note : Note) (next : ℕ) → Ready d ends notes note next → (c : Files) → HoldsOr notes (notes ++ note ∷ []) c → (l : List Note) → OpensWithNotes c l → IsTrue d.is_observable
    → (l ≡ notes_told d) ⊎ (l ≡ notes_told d ++ note ∷ [])
or_left d ends notes note next r c h l o is_observable =
    let choice = note_choice notes note r.told r.is (omega (arith, r.next_is, r.next_low)) in
    let by = or_opens notes (notes ++ note ∷ []) c choice h in
    let same = opens_once c l by.with o (by.each c h refl) in
    let was = all_told d r.laws notes r.all r.told r.low is_observable in
    ⊎_elim (λ is. inl (same ∙ is ∙ sym was)) (λ is. inr (same ∙ is ∙ ap (λ (k : List Note). k ++ note ∷ []) (sym was))) by.one_of

pub grows_perhaps : (d e n : Content) (laws_n : Lawful n) (ends : List ℕ) (notes : List Note) (note : Note) (next : ℕ) (fate : Fate) → Ready d ends notes note next → n.is_observable ≡ d.is_observable → Commits notes (notes ++ note ∷ []) fate e n → (fate ≡ Went → ⊥) → AppendsNote note (IsDone fate) (told_of d) (told_of n)
grows_perhaps d e n laws_n ends notes note next Went r same x not = absurd (not refl)
grows_perhaps d e n laws_n ends notes note next Dry r same x not = grows_not d n laws_n ends notes note next Dry r same (x.dry refl) not
grows_perhaps d e n laws_n ends notes note next Fault r same x not = record {
  is_observable = same;
  notes = λ is_observable. ⊎_elim
      (λ is. (false, undone Fault not, is))
      (λ is. (true, record { went = λ went. refl; dry = λ dry. cc }, is))
      (told is_observable);
  left = λ is_observable l at. either l (one is_observable l at);
}
  where
    told : IsTrue d.is_observable → (notes_told n ≡ notes_told d) ⊎ (notes_told n ≡ notes_told d ++ note ∷ [])
    told is_observable = more_told d n laws_n ends notes note next r same (x.images n.files (laws_n.reads (subst IsTrue (sym same) is_observable))) is_observable

    one : IsTrue d.is_observable → (l : List Note) → Left (told_of n) l → (l ≡ notes_told d) ⊎ (l ≡ notes_told d ++ note ∷ [])
    one is_observable l (inl is) = ⊎_elim (λ a. inl (is ∙ a)) (λ b. inr (is ∙ b)) (told is_observable)
    one is_observable l (inr (c, image, o)) = or_left d ends notes note next r c (x.images c image) l o is_observable

    either : (l : List Note) → (l ≡ notes_told d) ⊎ (l ≡ notes_told d ++ note ∷ []) → (IsDone Fault false × Left (told_of d) l) ⊎ (IsDone Fault true × (l ≡ notes_told d ++ note ∷ []))
    either l (inl is) = inl (undone Fault not, inl is)
    either l (inr is) = inr (record { went = λ went. refl; dry = λ dry. cc }, is)

-- the event was appended
pub put_has : (d m e n : Content) (ends now : List ℕ) (notes : List Note) (note : Note) (next : ℕ) → Ready d ends notes note next → Commits notes (notes ++ note ∷ []) Went e n → EndsWith n (notes ++ note ∷ []) → now ≡ ends ++ next ∷ [] → HasNotes n now Exact
put_has d m e n ends now notes note next r x exact now_is = record {
  notes = notes ++ note ∷ [];
  told = told_append notes (note ∷ []) r.told (r.is, tt);
  ends_are = now_is ∙ ap (λ (l : List ℕ). l ++ next ∷ []) r.ends_are ∙ ap (λ (p : ℕ). ends_from 0 notes ++ p ∷ []) (r.next_is ∙ sym (zero-add (length (frames (notes ++ note ∷ []))))) ∙ sym (ends_more 0 notes note);
  low = omega (arith, r.next_is, r.next_low);
  stands = (x.done refl, exact);
}

-- and opens from each image
put_opens : (d e n : Content) (ends : List ℕ) (notes : List Note) (note : Note) (next : ℕ) → Ready d ends notes note next → Commits notes (notes ++ note ∷ []) Went e n → (c : Files) → Image n c → OpensWithNotes c (notes ++ note ∷ [])
put_opens d e n ends notes note next r x c image = holds_opens (notes ++ note ∷ []) c (told_append notes (note ∷ []) r.told (r.is, tt)) (omega (arith, r.next_is, r.next_low)) (x.done refl c image)

pub put_durable : (d e n : Content) (laws_n : Lawful n) (ends : List ℕ) (notes : List Note) (note : Note) (next : ℕ) → Ready d ends notes note next → n.is_observable ≡ d.is_observable → Commits notes (notes ++ note ∷ []) Went e n → (c : Files) → Image n c → OpensWithNotes c (notes_told d ++ note ∷ [])
put_durable d e n laws_n ends notes note next r same x c image =
    let is_observable = subst IsTrue same (laws_n.told c image) in
    subst (λ (l : List Note). OpensWithNotes c (l ++ note ∷ [])) (sym (all_told d r.laws notes r.all r.told r.low is_observable)) (put_opens d e n ends notes note next r x c image)

pub put_grows : (d e n : Content) (laws_n : Lawful n) (ends : List ℕ) (notes : List Note) (note : Note) (next : ℕ) → Ready d ends notes note next → n.is_observable ≡ d.is_observable → Commits notes (notes ++ note ∷ []) Went e n → AppendsNote note (IsDone Went) (told_of d) (told_of n)
put_grows d e n laws_n ends notes note next r same x = record {
  is_observable = same;
  notes = λ is_observable. (true, done, now is_observable ∙ was is_observable);
  left = λ is_observable l at. inr (done, opens_left n (notes ++ note ∷ []) (now is_observable) (put_opens d e n ends notes note next r x) l at ∙ was is_observable);
}
  where
    done : IsDone Went true
    done = record { went = λ went. refl; dry = λ dry. cc }

    now : IsTrue d.is_observable → notes_told n ≡ notes ++ note ∷ []
    now is_observable = disk_told n (notes ++ note ∷ []) (subst IsTrue (sym same) is_observable) (put_opens d e n ends notes note next r x n.files (laws_n.reads (subst IsTrue (sym same) is_observable)))

    was : IsTrue d.is_observable → notes ++ note ∷ [] ≡ notes_told d ++ note ∷ []
    was is_observable = ap (λ (l : List Note). l ++ note ∷ []) (sym (all_told d r.laws notes r.all r.told r.low is_observable))

-- nothing was done
pub grows_same : (d : Content) (note : Note) (fate : Fate) → (fate ≡ Went → ⊥) → AppendsNote note (IsDone fate) (told_of d) (told_of d)
grows_same d note fate not = grows_left d d note fate not refl refl (λ l at. at)

-- its number
pub put_place : (d : Content) (ends : List ℕ) (notes : List Note) (note : Note) (next : ℕ) → Ready d ends notes note next → IsTrue d.is_observable → length ends ≡ length (notes_told d)
put_place d ends notes note next r is_observable = ap length r.ends_are ∙ ends_len 0 notes ∙ ap length (sym (all_told d r.laws notes r.all r.told r.low is_observable))
