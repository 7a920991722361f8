-- The steps of an append: cut, append, sync, and then the gate.
use Rattle.std.proofs.Common.{◌≡◌, ◌∙◌, sym, ap, subst, refl, inl, inr, ⊎_elim, ℕ, zero, suc, Bool, true, cond, List, [], ◌∷◌, ◌++◌, length, take, Option, Some, None, IsTrue, IsSome, append_assoc}
use Rattle.std.proofs.lemmas.List.{take_at}
use Rattle.tier_base.specs.declared.plain.FileName.TheVariants as file
use Rattle.tier_base.specs.Device.{Fate, Went, Dry}
use Rattle.tier_base.specs.Told.{bytes_in, replaced}
use Rattle.disk_model.specs.Content.{Content, Files, Image, Lawful, Keeps, Changes, Swapped, HasGrown, appended, CutBack, cut_to, BeginsWith, Elapses, LeavesOnly}
use Rattle.segment_meta.specs.declared.note.Note.{Note}
use Rattle.meta_log_file.specs.declared.marks.Tail.{Tail}
use Rattle.meta_log_file.specs.declared.marks.Tail.TheVariants.{Exact, Loose, Unsure}
use Rattle.meta_log_file.specs.Notes.{framed, frames, gate_bytes, HasFront}
use Rattle.meta_log_file.specs.Stands.{GatedBy, HoldsOr, AllHold, EndsWith, StandsBy, IsSure}
use Rattle.meta_log_file.specs.Writing.{LeavesNotes, LeavesOr, WritesNote, Commits}
use Rattle.meta_log_file.proofs.Frames.{frames_more}
use Rattle.meta_log_file.proofs.Moments.{started, goes_on}
use Rattle.meta_log_file.proofs.Holding.{gate_not_notes, notes_not_gate}

-- before the first call
pub leaves_started : (d : Content) (laws : Lawful d) (notes : List Note) → AllHold d notes → LeavesOnly d d (LeavesNotes d notes)
leaves_started d laws notes all = started d (LeavesNotes d notes) (λ c image. (laws.told c image, all c image))

-- one call more
pub leaves_on : (old mid new : Content) (laws : Lawful new) (notes : List Note) → new.is_observable ≡ old.is_observable → LeavesOnly old mid (LeavesNotes old notes) → Elapses mid new → AllHold new notes → LeavesOnly old new (LeavesNotes old notes)
leaves_on old mid new laws notes is_observable so_far time all = goes_on old mid new (LeavesNotes old notes) so_far time (λ c image. (subst IsTrue is_observable (laws.told c image), all c image))

-- where the tail is sure, each image has the events
pub sure_all : (d : Content) (notes : List Note) (tail : Tail) → StandsBy d notes tail → IsSure tail → AllHold d notes
sure_all d notes Exact stands sure = stands.0
sure_all d notes Loose stands sure = stands
sure_all d notes (Unsure next) stands sure = absurd (sure)

-- a call that changes no file
pub keeps_all : (d m : Content) (notes : List Note) → Keeps d m → AllHold d notes → AllHold m notes
keeps_all d m notes keeps all c image = all c (keeps.images c image)

-- the front of a file that is cut after it, or grows
cut_front : (notes : List Note) (end : ℕ) (before after : Option (List ℕ)) → end ≡ length (frames notes) → HasFront (frames notes) before → CutBack end before after → HasFront (frames notes) after
cut_front notes end before after is f (inl same) = subst (HasFront (frames notes)) (sym same) f
cut_front notes end before after is f (inr (some, (behind, now))) =
    let front : take end (bytes_in before) ≡ frames notes = ap (take end) f.is ∙ take_at (frames notes) f.behind end (sym is) in
    record { behind = behind; is = ap bytes_in now ∙ ap (λ (b : List ℕ). b ++ behind) front }

grown_front : (notes : List Note) (before after : Option (List ℕ)) → HasFront (frames notes) before → HasGrown before after → HasFront (frames notes) after
grown_front notes before after f (inl same) = subst (HasFront (frames notes)) (sym same) f
grown_front notes before after f (inr (behind, now)) = record {
  behind = f.behind ++ behind;
  is = ap bytes_in now ∙ ap (λ (b : List ℕ). b ++ behind) f.is ∙ append_assoc (frames notes) f.behind behind;
}

-- a cut after the events
pub cut_all : (d m : Content) (notes : List Note) (end : ℕ) (M : Bool → Type 0) → end ≡ length (frames notes) → AllHold d notes → Changes file.Notes (cut_to end) (CutBack end) M d m → AllHold m notes
cut_all d m notes end M is all change c image =
    let x = change.images c image in
    let h = all x.0 x.1 in
    record { gate = x.2.others file.Gate gate_not_notes ∙ h.gate; front = cut_front notes end (x.0 file.Notes) (c file.Notes) is h.front x.2.there }

take_bytes : (end : ℕ) (held : Option (List ℕ)) → bytes_in (cut_to end held) ≡ take end (bytes_in held)
take_bytes zero None = refl
take_bytes (suc end) None = refl
take_bytes end (Some bytes) = refl

pub cut_exact : (d m : Content) (laws : Lawful d) (notes : List Note) (end : ℕ) (M : Bool → Type 0) → end ≡ length (frames notes) → AllHold d notes → ((done : Bool) → M done → IsTrue done) → Changes file.Notes (cut_to end) (CutBack end) M d m → EndsWith m notes
cut_exact d m laws notes end M is all went change is_observable =
    let told : IsTrue d.is_observable = subst IsTrue change.is_observable is_observable in
    let h = all d.files (laws.reads told) in
    let x = change.files told in
    let now : m.files file.Notes ≡ cut_to end (d.files file.Notes) = x.2.there ∙ ap (λ (done : Bool). cond done (cut_to end (d.files file.Notes)) (d.files file.Notes)) (went x.0 x.1) in
    ap bytes_in now ∙ take_bytes end (d.files file.Notes) ∙ ap (take end) h.front.is ∙ take_at (frames notes) h.front.behind end (sym is)

-- an append after the events
pub append_all : (d m : Content) (notes : List Note) (bytes : List ℕ) (M : Bool → Type 0) → AllHold d notes → Changes file.Notes (appended bytes) HasGrown M d m → AllHold m notes
append_all d m notes bytes M all change c image =
    let x = change.images c image in
    let h = all x.0 x.1 in
    record { gate = x.2.others file.Gate gate_not_notes ∙ h.gate; front = grown_front notes (x.0 file.Notes) (c file.Notes) h.front x.2.there }

-- what reads of the file then
appended_is : (d m : Content) (bytes : List ℕ) (M : Bool → Type 0) → ((done : Bool) → M done → IsTrue done) → Changes file.Notes (appended bytes) HasGrown M d m → IsTrue d.is_observable → m.files file.Notes ≡ Some (bytes_in (d.files file.Notes) ++ bytes)
appended_is d m bytes M went change told =
    let x = change.files told in
    x.2.there ∙ ap (λ (done : Bool). cond done (appended bytes (d.files file.Notes)) (d.files file.Notes)) (went x.0 x.1)

pub append_exact : (d m : Content) (notes : List Note) (note : Note) (bytes : List ℕ) (M : Bool → Type 0) → EndsWith d notes → bytes ≡ framed note → ((done : Bool) → M done → IsTrue done) → Changes file.Notes (appended bytes) HasGrown M d m → EndsWith m (notes ++ note ∷ [])
append_exact d m notes note bytes M exact is went change is_observable =
    let told : IsTrue d.is_observable = subst IsTrue change.is_observable is_observable in
    ap bytes_in (appended_is d m bytes M went change told) ∙ ap (λ (b : List ℕ). b ++ bytes) (exact told) ∙ ap (λ (b : List ℕ). frames notes ++ b) is ∙ sym (frames_more notes note)

-- a sync of what was appended
pub synced_front : (d m n : Content) (laws : Lawful n) (notes : List Note) (note : Note) (bytes : List ℕ) (M : Bool → Type 0) → EndsWith d notes → bytes ≡ framed note → ((done : Bool) → M done → IsTrue done) → Changes file.Notes (appended bytes) HasGrown M d m → Keeps m n
    → ((c : Files) → Image n c → BeginsWith (m.files file.Notes) (c file.Notes)) → (c : Files) → Image n c → HasFront (frames (notes ++ note ∷ [])) (c file.Notes)
synced_front d m n laws notes note bytes M exact is went change keeps durable c image =
    let told : IsTrue m.is_observable = subst IsTrue keeps.is_observable (laws.told c image) in
    let there = appended_is d m bytes M went change (subst IsTrue change.is_observable told) in
    let some : IsSome (m.files file.Notes) = subst IsSome (sym there) refl in
    let b = durable c image some in
    record { behind = b.0; is = ap bytes_in b.1 ∙ ap (λ (x : List ℕ). x ++ b.0) (append_exact d m notes note bytes M exact is went change told) }

-- what is kept where nothing more is written
pub ends_kept : (m n : Content) (notes : List Note) → Keeps m n → EndsWith m notes → EndsWith n notes
ends_kept m n notes keeps exact is_observable = ap bytes_in (keeps.files file.Notes) ∙ exact (subst IsTrue keeps.is_observable is_observable)

-- an append that came to no end
pub extends_not : (notes : List Note) (note : Note) (fate : Fate) (old new : Content) → LeavesOnly old new (LeavesNotes old notes) → AllHold new notes → (fate ≡ Went → ⊥) → WritesNote notes note fate old new
extends_not notes note fate old new since all not = record { since = since; images = all; stays = λ went. absurd (not went); exact = λ went. absurd (not went) }

-- the gate moves
commit_or : (notes more : List Note) (d n : Content) (end : ℕ) (M : Bool → Type 0) → ((c : Files) → Image d c → HoldsOr notes more c) → end ≡ length (frames more) → Changes file.Gate (replaced (gate_bytes end)) (Swapped (gate_bytes end)) M d n → (c : Files) → Image n c → HoldsOr notes more c
commit_or notes more d n end M all is change c image =
    let x = change.images c image in
    let h = all x.0 x.1 in
    record {
      gate = ⊎_elim
          (λ same. ⊎_elim (λ (a : GatedBy x.0 notes). inl (same ∙ a)) (λ (b : GatedBy x.0 more). inr (same ∙ b)) h.gate)
          (λ now. inr (now ∙ ap (λ (p : ℕ). Some (gate_bytes p)) is))
          x.2.there;
      front = subst (HasFront (frames more)) (sym (x.2.others file.Notes notes_not_gate)) h.front;
    }

pub commits : (notes more : List Note) (d n : Content) (laws : Lawful d) (laws_after : Lawful n) (end : ℕ) (fate : Fate) (M : Bool → Type 0) → AllHold d notes → ((c : Files) → Image d c → HoldsOr notes more c) → end ≡ length (frames more)
    → Changes file.Gate (replaced (gate_bytes end)) (Swapped (gate_bytes end)) M d n → (fate ≡ Went → (c : Files) → Image n c → c file.Gate ≡ Some (gate_bytes end)) → (fate ≡ Dry → M true → ⊥) → Commits notes more fate d n
commits notes more d n laws laws_after end fate M all all_or is change durable undone = record {
  since = goes_on d d n (LeavesOr d notes more) (started d (LeavesOr d notes more) (λ c image. (laws.told c image, all_or c image))) change.time (λ c image. (subst IsTrue change.is_observable (laws_after.told c image), or c image));
  images = or;
  done = λ went c image. record { gate = durable went c image ∙ ap (λ (p : ℕ). Some (gate_bytes p)) is; front = (or c image).front };
  dry = λ dry c image. all c (change.undone (undone dry) c image);
}
  where
    or : (c : Files) → Image n c → HoldsOr notes more c
    or = commit_or notes more d n end M all_or is change

pub commit_exact : (notes : List Note) (d n : Content) (g : List ℕ) (M : Bool → Type 0) → Changes file.Gate (replaced g) (Swapped g) M d n → EndsWith d notes → EndsWith n notes
commit_exact notes d n g M change exact is_observable =
    let told : IsTrue d.is_observable = subst IsTrue change.is_observable is_observable in
    let x = change.files told in
    ap bytes_in (x.2.others file.Notes notes_not_gate) ∙ exact told
