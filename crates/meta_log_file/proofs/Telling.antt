-- What the files report is what they open with.
use Rattle.std.proofs.Common.{◌≡◌, ◌∙◌, sym, ap, subst, refl, ℕ, ◌+◌, ◌≤◌, suc, zero, List, [], ◌∷◌, ◌++◌, length, take, drop, Option, Some, None, arith, cond, IsTrue}
use Rattle.std.proofs.lemmas.List.{take_at}
use Rattle.tier_base.specs.declared.plain.FileName.TheVariants as file
use Rattle.tier_base.specs.Told.{bytes_in}
use Rattle.disk_model.specs.Content.{Content, Files}
use Rattle.segment_meta.specs.declared.note.Note.{Note}
use Rattle.segment_meta.specs.Reading.{note_in}
use Rattle.segment_meta.proofs.Again.{note_again}
use Rattle.meta_log_file.specs.Notes.{framed, frames, AreWritable, GateAt, HasFront, OpensWithNotes}
use Rattle.meta_log_file.specs.Told.{recorded, size_in, notes_at, gate_of, gated, notes_of, notes_told}
use Rattle.meta_log_file.proofs.Frames.{body_again, behind_again, frames_long, gate_again}

-- no bytes are no events
none_again : (size count : ℕ) → recorded (note_in (take size [])) (notes_at count (drop (4 + size) [])) ≡ []
unfolding note_in
none_again zero count = refl
none_again (suc size) count = refl

-- events are read again
pub notes_again : (notes : List Note) (count : ℕ) → AreWritable notes → length notes ≤ count → notes_at count (frames notes) ≡ notes
notes_again [] zero told few = refl
notes_again [] (suc count) told few = none_again (size_in []) count
notes_again (n ∷ notes) zero told few = absurd (omega (arith, few))
notes_again (n ∷ notes) (suc count) told few =
    let bytes = framed n ++ frames notes in
    ap (λ (b : List ℕ). recorded (note_in b) (notes_at count (drop (4 + size_in bytes) bytes))) (body_again n (frames notes) told.0)
    ∙ ap (λ r. recorded r (notes_at count (drop (4 + size_in bytes) bytes))) (note_again n told.0.rules told.0.fits)
    ∙ ap (λ (b : List ℕ). n ∷ notes_at count b) (behind_again n (frames notes) told.0)
    ∙ ap (λ (l : List Note). n ∷ l) (notes_again notes count told.1 (omega (arith, few)))

gate_is : (held : Option (List ℕ)) (end : ℕ) → GateAt held end → gate_of held ≡ end
gate_is None end at = sym at
gate_is (Some bytes) end at = ap (λ (b : List ℕ). gate_of (Some b)) at.1 ∙ gate_again end at.0

-- the files report the events with which they open
pub opens_told : (c : Files) (notes : List Note) → OpensWithNotes c notes → notes_of c ≡ notes
unfolding notes_of
opens_told c notes o =
    let bytes : gated c ≡ frames notes =
    ap (λ (n : ℕ). take n (bytes_in (c file.Notes))) (gate_is (c file.Gate) (length (frames notes)) o.gate)
    ∙ ap (take (length (frames notes))) o.front.is
    ∙ take_at (frames notes) o.front.behind (length (frames notes)) refl in
    ap (λ (b : List ℕ). notes_at (length b) b) bytes ∙ notes_again notes (length (frames notes)) o.told (frames_long notes)

pub opens_once : (c : Files) (a b : List Note) → OpensWithNotes c a → OpensWithNotes c b → a ≡ b
opens_once c a b p q = sym (opens_told c a p) ∙ opens_told c b q

-- an observable disk reports the events with which its files open
pub disk_told : (d : Content) (notes : List Note) → IsTrue d.is_observable → OpensWithNotes d.files notes → notes_told d ≡ notes
disk_told d notes is_observable o = ap (λ b. cond b (notes_of d.files) []) is_observable ∙ opens_told d.files notes o

-- files that are alike in both names open alike
pub opens_same : (c d : Files) (notes : List Note) → c file.Gate ≡ d file.Gate → c file.Notes ≡ d file.Notes → OpensWithNotes d notes → OpensWithNotes c notes
opens_same c d notes gate bytes o = record {
  told = o.told;
  gate = subst (λ (held : Option (List ℕ)). GateAt held (length (frames notes))) (sym gate) o.gate;
  front = subst (HasFront (frames notes)) (sym bytes) o.front;
}
