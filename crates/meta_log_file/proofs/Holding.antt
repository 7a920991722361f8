-- Images that have the events, and with what they open.
use Rattle.std.proofs.Common.{◌≡◌, ◌≢◌, ◌∙◌, sym, ap, subst, refl, inl, inr, ⊎_elim, ◌⊎◌, ℕ, zero, suc, ◌+◌, ◌<◌, ◌≤◌, ◌^◌, Bool, true, false, cond, List, [], ◌∷◌, ◌++◌, length, take, get_or, Option, Some, IsTrue, arith, length-append, append_assoc, zero-add}
use Rattle.std.proofs.lemmas.List.{append-nil, take_all}
use Rattle.tier_base.specs.declared.plain.FileName.TheVariants as file
use Rattle.disk_model.specs.Content.{Content, Files, Image}
use Rattle.segment_meta.specs.declared.note.Note.{Note}
use Rattle.meta_log_file.specs.Notes.{framed, frames, gate_bytes, IsWritable, AreWritable, GateAt, HasFront, OpensWithNotes}
use Rattle.meta_log_file.specs.Ends.{ends_from, start_of}
use Rattle.meta_log_file.specs.Crash.{OpensLike}
use Rattle.meta_log_file.specs.Stands.{GatedBy, HoldsNotes, HoldsOr}
use Rattle.meta_log_file.specs.Told.{notes_of, notes_told}
use Rattle.meta_log_file.proofs.Frames.{frames_append, frames_more, told_append}

pub notes_not_gate : file.Notes ≢ file.Gate
notes_not_gate is = cc

pub gate_not_notes : file.Gate ≢ file.Notes
gate_not_notes is = cc

-- the front of fewer events
pub front_less : (notes more : List Note) (held : Option (List ℕ)) → HasFront (frames (notes ++ more)) held → HasFront (frames notes) held
front_less notes more held f = record {
  behind = frames more ++ f.behind;
  is = f.is ∙ ap (λ (b : List ℕ). b ++ f.behind) (frames_append notes more) ∙ append_assoc (frames notes) (frames more) f.behind;
}

-- events that may be all or the first of more
pub record Choice (notes more : List Note) : Type 0 where
  pub told : AreWritable notes
  pub told_more : AreWritable more
  pub low : length (frames notes) < 2 ^ 64
  pub low_more : length (frames more) < 2 ^ 64
  pub front : (held : Option (List ℕ)) → HasFront (frames more) held → HasFront (frames notes) held

-- no choice
pub one_choice : (notes : List Note) → AreWritable notes → length (frames notes) < 2 ^ 64 → Choice notes notes
one_choice notes told low = record { told = told; told_more = told; low = low; low_more = low; front = λ held f. f }

pub note_choice : (notes : List Note) (note : Note) → AreWritable notes → IsWritable note → length (frames (notes ++ note ∷ [])) < 2 ^ 64 → Choice notes (notes ++ note ∷ [])
note_choice notes note told is low = record {
  told = told;
  told_more = told_append notes (note ∷ []) told (is, tt);
  low = (let long = ap length (frames_more notes note) ∙ length-append (frames notes) (framed note) in omega (arith, long, low));
  low_more = low;
  front = front_less notes (note ∷ []);
}

-- the gate of a file, where it is a gate
pub gate_at : (held : Option (List ℕ)) (end : ℕ) → end < 2 ^ 64 → held ≡ Some (gate_bytes end) → GateAt held end
gate_at held end low is = subst (λ (h : Option (List ℕ)). GateAt h end) (sym is) (low, refl)

pub holds_opens : (notes : List Note) (c : Files) → AreWritable notes → length (frames notes) < 2 ^ 64 → HoldsNotes notes c → OpensWithNotes c notes
holds_opens notes c told low h = record { told = told; gate = gate_at (c file.Gate) (length (frames notes)) low h.gate; front = h.front }

pub holds_or : (notes : List Note) (c : Files) → HoldsNotes notes c → HoldsOr notes notes c
holds_or notes c h = record { gate = inl h.gate; front = h.front }

pub or_holds : (notes : List Note) (c : Files) → HoldsOr notes notes c → HoldsNotes notes c
or_holds notes c h = record { gate = ⊎_elim (λ g. g) (λ g. g) h.gate; front = h.front }

-- with what such an image opens: it is decided by the gate alone
pub record OpensBy (notes more : List Note) (c : Files) : Type 0 where
  pub with : List Note
  pub one_of : (with ≡ notes) ⊎ (with ≡ more)
  pub gate : GatedBy c with
  pub each : (x : Files) → HoldsOr notes more x → x file.Gate ≡ c file.Gate → OpensWithNotes x with

pub or_opens : (notes more : List Note) (c : Files) → Choice notes more → HoldsOr notes more c → OpensBy notes more c
or_opens notes more c choice h = ⊎_elim
    (λ (g : GatedBy c notes). record {
      with = notes;
      one_of = inl refl;
      gate = g;
      each = λ x hx same. record { told = choice.told; gate = gate_at (x file.Gate) (length (frames notes)) choice.low (same ∙ g); front = choice.front (x file.Notes) hx.front };
    })
    (λ (g : GatedBy c more). record {
      with = more;
      one_of = inr refl;
      gate = g;
      each = λ x hx same. record { told = choice.told_more; gate = gate_at (x file.Gate) (length (frames more)) choice.low_more (same ∙ g); front = hx.front };
    })
    h.gate

-- it opens like another image that has its gate
pub like_of : (notes more : List Note) (d : Content) (c x : Files) → Choice notes more → HoldsOr notes more c → HoldsOr notes more x → Image d x → c file.Gate ≡ x file.Gate → OpensLike d c
like_of notes more d c x choice hc hx image same =
    let o = or_opens notes more x choice hx in (x, image, (o.with, o.each x hx refl, o.each c hc same))

-- the files that a disk has are reported where it is observable
pub told_same : (d n : Content) → n.is_observable ≡ d.is_observable → (IsTrue d.is_observable → notes_of n.files ≡ notes_of d.files) → notes_told n ≡ notes_told d
told_same d n is_observable files = by d.is_observable is_observable files
  where
    by : (t : Bool) → n.is_observable ≡ t → (IsTrue t → notes_of n.files ≡ notes_of d.files) → cond n.is_observable (notes_of n.files) [] ≡ cond t (notes_of d.files) []
    by true is same = ap (λ (t : Bool). cond t (notes_of n.files) []) is ∙ same refl
    by false is same = ap (λ (t : Bool). cond t (notes_of n.files) []) is

pub notes_same : (c d : Files) → c file.Gate ≡ d file.Gate → c file.Notes ≡ d file.Notes → notes_of c ≡ notes_of d
unfolding notes_of
notes_same c d gate notes = cc

-- where the events end
pub ends_len : (start : ℕ) (notes : List Note) → length (ends_from start notes) ≡ length notes
ends_len start [] = refl
ends_len start (n ∷ notes) = ap suc (ends_len (start + length (framed n)) notes)

pub end_at : (start : ℕ) (notes : List Note) (k : ℕ) → k < length notes → get_or (ends_from start notes) k 0 ≡ start + length (frames (take (suc k) notes))
end_at start [] k lt = absurd (omega (arith, lt))
end_at start (n ∷ notes) zero lt = ap (λ (m : ℕ). start + m) (ap length (sym (append-nil (framed n))))
end_at start (n ∷ notes) (suc k) lt =
    let more = end_at (start + length (framed n)) notes k (omega (arith, lt)) in
    let parts = length-append (framed n) (frames (take (suc k) notes)) in
    omega (arith, more, parts)

-- where the event of a number begins
pub start_at : (notes : List Note) (k : ℕ) → k ≤ length notes → start_of (ends_from 0 notes) k ≡ length (frames (take k notes))
start_at notes zero le = refl
start_at notes (suc k) le = end_at 0 notes k (omega (arith, le)) ∙ zero-add (length (frames (take (suc k) notes)))

-- and where the last one ends
pub last_end : (ends : List ℕ) (notes : List Note) → ends ≡ ends_from 0 notes → start_of ends (length ends) ≡ length (frames notes)
last_end ends notes is =
    ap (λ (l : List ℕ). start_of l (length l)) is
    ∙ ap (start_of (ends_from 0 notes)) (ends_len 0 notes)
    ∙ start_at notes (length notes) (omega arith)
    ∙ ap (λ (l : List Note). length (frames l)) (take_all (length notes) notes (omega arith))
