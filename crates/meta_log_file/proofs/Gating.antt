-- The gate is replaced by what it reads.
use Rattle.std.proofs.Common.{◌≡◌, ◌∙◌, sym, ap, subst, refl, inl, inr, ⊎_elim, ◌⊎◌, ℕ, Bool, List, [], ◌∷◌, ◌++◌, length, Option, Some, None, IsTrue, arith}
use Rattle.tier_base.specs.declared.plain.FileName.TheVariants as file
use Rattle.tier_base.specs.Told.{bytes_in, replaced}
use Rattle.disk_model.specs.Content.{Content, Files, Image, Keeps, Changes, Swapped, LeavesOnly}
use Rattle.segment_meta.specs.declared.note.Note.{Note}
use Rattle.meta_log_file.specs.declared.marks.Tail.{Tail}
use Rattle.meta_log_file.specs.declared.marks.Tail.TheVariants.{Exact, Loose, Unsure}
use Rattle.meta_log_file.specs.Notes.{frames, gate_bytes, GateAt, HasFront}
use Rattle.meta_log_file.specs.Ends.{ends_from}
use Rattle.meta_log_file.specs.Reading.{IsGateOf, IsNoGateOf}
use Rattle.meta_log_file.specs.Crash.{Reopens, OpensLike}
use Rattle.meta_log_file.specs.Stands.{GatedBy, HoldsOr, AllHold, StandsBy, HasNotes}
use Rattle.meta_log_file.proofs.Frames.{gate_len, gate_once}
use Rattle.meta_log_file.proofs.Moments.{started, goes_on}
use Rattle.meta_log_file.proofs.Holding.{notes_not_gate, Choice, one_choice, note_choice, holds_or, or_opens, like_of}

-- a file whose gate is neither of two
pub no_gate_of : (held : Option (List ℕ)) (here : ℕ) (next : Option ℕ) (end : ℕ) → GateAt held end → (IsGateOf here next end → ⊥) → IsNoGateOf here next (bytes_in held)
no_gate_of None here next end at not = λ e is low same. (let long = ap length same in let size = gate_len e in absurd (omega (arith, long, size)))
no_gate_of (Some bytes) here next end at not = λ e is low same. not (subst (IsGateOf here next) (gate_once e end low at.0 (sym same ∙ at.1)) is)

-- what the images have of an open log: events, and perhaps more
pub record Gated (d : Content) (ends : List ℕ) (notes more : List Note) : Type 0 where
  pub choice : Choice notes more
  pub ends_are : ends ≡ ends_from 0 notes
  pub images : (c : Files) → Image d c → HoldsOr notes more c

pub all_or : (d : Content) (notes : List Note) → AllHold d notes → (c : Files) → Image d c → HoldsOr notes notes c
all_or d notes all c image = holds_or notes c (all c image)

-- an open log's images, by how the last writing call ended
pub record InDoubt (d : Content) (ends : List ℕ) (tail : Tail) : Type 0 where
  pub notes : List Note
  pub more : List Note
  pub gated : Gated d ends notes more

abbrev pub in_doubt : (d : Content) (ends : List ℕ) (tail : Tail) → HasNotes d ends tail → InDoubt d ends tail
in_doubt d ends Exact h = record { notes = h.notes; more = h.notes; gated = record { choice = one_choice h.notes h.told h.low; ends_are = h.ends_are; images = all_or d h.notes h.stands.0 } }
in_doubt d ends Loose h = record { notes = h.notes; more = h.notes; gated = record { choice = one_choice h.notes h.told h.low; ends_are = h.ends_are; images = all_or d h.notes h.stands } }
in_doubt d ends (Unsure None) h = record { notes = h.notes; more = h.notes; gated = record { choice = one_choice h.notes h.told h.low; ends_are = h.ends_are; images = all_or d h.notes h.stands } }
in_doubt d ends (Unsure (Some end)) h = record {
  notes = h.notes;
  more = h.notes ++ h.stands.note ∷ [];
  gated = record {
    choice = note_choice h.notes h.stands.note h.told h.stands.told (omega (arith, h.stands.end_is, h.stands.low));
    ends_are = h.ends_are;
    images = h.stands.images;
  };
}

-- each image of an open log's disk opens like itself
pub has_like : (d : Content) (ends : List ℕ) (tail : Tail) → HasNotes d ends tail → (c : Files) → Image d c → OpensLike d c
has_like d ends tail h c image =
    let doubt = in_doubt d ends tail h in
    let hc = doubt.gated.images c image in
    like_of doubt.notes doubt.more d c c doubt.gated.choice hc hc image refl

pub has_reopens : (d : Content) (ends : List ℕ) (tail : Tail) → HasNotes d ends tail → Reopens d
has_reopens d ends tail h c image =
    let doubt = in_doubt d ends tail h in
    let hc = doubt.gated.images c image in
    let o = or_opens doubt.notes doubt.more c doubt.gated.choice hc in (o.with, o.each c hc refl)

pub has_started : (d : Content) (ends : List ℕ) (tail : Tail) → HasNotes d ends tail → LeavesOnly d d (OpensLike d)
has_started d ends tail h = started d (OpensLike d) (has_like d ends tail h)

-- a call that changes nothing
pub stands_kept : (d m : Content) (notes : List Note) (tail : Tail) → Keeps d m → StandsBy d notes tail → StandsBy m notes tail
stands_kept d m notes Exact keeps s = (λ c image. s.0 c (keeps.images c image), λ is_observable. ap bytes_in (keeps.files file.Notes) ∙ s.1 (subst IsTrue keeps.is_observable is_observable))
stands_kept d m notes Loose keeps s = λ c image. s c (keeps.images c image)
stands_kept d m notes (Unsure None) keeps s = λ c image. s c (keeps.images c image)
stands_kept d m notes (Unsure (Some end)) keeps s = record { note = s.note; told = s.told; low = s.low; end_is = s.end_is; images = λ c image. s.images c (keeps.images c image) }

pub has_kept : (d m : Content) (ends : List ℕ) (tail : Tail) → Keeps d m → HasNotes d ends tail → HasNotes m ends tail
has_kept d m ends tail keeps h = record { notes = h.notes; told = h.told; ends_are = h.ends_are; low = h.low; stands = stands_kept d m h.notes tail keeps h.stands }

pub keeps_since : (d m : Content) (ends : List ℕ) (tail : Tail) → Keeps d m → HasNotes d ends tail → LeavesOnly d m (OpensLike d)
keeps_since d m ends tail keeps h = goes_on d d m (OpensLike d) (has_started d ends tail h) keeps.time (λ c image. has_like d ends tail h c (keeps.images c image))

-- after a replacement of the gate each image has the events as an image of before
pub record Regated (d n : Content) (g : List ℕ) (c : Files) : Type 0 where
  pub image : Files
  pub was : Image d image
  pub notes : c file.Notes ≡ image file.Notes
  pub gate : (c file.Gate ≡ image file.Gate) ⊎ (c file.Gate ≡ Some g)

pub regated : (d m n : Content) (g : List ℕ) (M : Bool → Type 0) → Keeps d m → Changes file.Gate (replaced g) (Swapped g) M m n → (c : Files) → Image n c → Regated d n g c
regated d m n g M keeps change c image =
    let x = change.images c image in
    record { image = x.0; was = keeps.images x.0 x.1; notes = x.2.others file.Notes notes_not_gate; gate = x.2.there }

-- a gate of one of them keeps the choice
pub regated_or : (notes more : List Note) (d n : Content) (g : List ℕ) (c : Files) → ((x : Files) → Image d x → HoldsOr notes more x) → (g ≡ gate_bytes (length (frames notes))) ⊎ (g ≡ gate_bytes (length (frames more))) → Regated d n g c → HoldsOr notes more c
regated_or notes more d n g c all is r =
    let h = all r.image r.was in
    record {
      gate = ⊎_elim
          (λ same. ⊎_elim (λ (a : GatedBy r.image notes). inl (same ∙ a)) (λ (b : GatedBy r.image more). inr (same ∙ b)) h.gate)
          (λ now. ⊎_elim (λ a. inl (now ∙ ap Some a)) (λ b. inr (now ∙ ap Some b)) is)
          r.gate;
      front = subst (HasFront (frames more)) (sym r.notes) h.front;
    }

-- what an open log's gate reads, where the disk is observable
pub gate_reads : (notes more : List Note) (c : Files) (end : ℕ) → Choice notes more → HoldsOr notes more c → GateAt (c file.Gate) end → (c file.Gate ≡ Some (gate_bytes end)) × ((gate_bytes end ≡ gate_bytes (length (frames notes))) ⊎ (gate_bytes end ≡ gate_bytes (length (frames more))))
gate_reads notes more c end choice h at = ⊎_elim
    (λ (g : GatedBy c notes). (let same = one (length (frames notes)) g in (g ∙ ap Some (sym same), inl same)))
    (λ (g : GatedBy c more). (let same = one (length (frames more)) g in (g ∙ ap Some (sym same), inr same)))
    h.gate
  where
    one : (place : ℕ) → c file.Gate ≡ Some (gate_bytes place) → gate_bytes end ≡ gate_bytes place
    one place is = (let there : GateAt (Some (gate_bytes place)) end = subst (λ (held : Option (List ℕ)). GateAt held end) is at in sym there.1)
