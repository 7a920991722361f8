-- Going through events one after another.
use Rattle.std.proofs.Common.{◌≡◌, ◌∙◌, sym, ap, refl, ℕ, ◌+◌, ◌<◌, ◌≤◌, List, [], ◌∷◌, ◌++◌, length, arith, length-append, append_assoc, zero-add}
use Rattle.std.proofs.lemmas.List.{append-nil}
use Rattle.segment_meta.specs.declared.note.Note.{Note}
use Rattle.meta_log_file.specs.Notes.{framed, frames, IsWritable, AreWritable}
use Rattle.meta_log_file.specs.Ends.{ends_from}
use Rattle.meta_log_file.specs.Reading.{NoNote, EndAt, BreakAt}
use Rattle.meta_log_file.proofs.Frames.{frames_more, told_append, frames_front, Behind}

-- events were found at the front, and these bytes are left
pub record Found (bytes : List ℕ) (notes : List Note) (rest : List ℕ) : Type 0 where
  pub told : AreWritable notes
  pub bytes_are : bytes ≡ frames notes ++ rest

-- none yet
pub found_none : (bytes : List ℕ) → Found bytes [] bytes
found_none bytes = record { told = tt; bytes_are = refl }

-- one more
pub found_more : (bytes : List ℕ) (notes : List Note) (rest : List ℕ) (note : Note) (behind : List ℕ) → Found bytes notes rest → IsWritable note → rest ≡ framed note ++ behind → Found bytes (notes ++ note ∷ []) behind
found_more bytes notes rest note behind found told is = record {
  told = told_append notes (note ∷ []) found.told (told, tt);
  bytes_are = found.bytes_are ∙ ap (λ (b : List ℕ). frames notes ++ b) is ∙ sym (append_assoc (frames notes) (framed note) behind) ∙ ap (λ (b : List ℕ). b ++ behind) (sym (frames_more notes note));
}

-- all
pub found_all : (bytes : List ℕ) (notes : List Note) (rest : List ℕ) → Found bytes notes rest → rest ≡ [] → bytes ≡ frames notes
found_all bytes notes rest found nothing = found.bytes_are ∙ ap (λ (b : List ℕ). frames notes ++ b) nothing ∙ append-nil (frames notes)

-- bytes that no event begins are no events, or none are left
pub found_no : (notes all : List Note) (rest : List ℕ) → AreWritable notes → AreWritable all → NoNote rest → frames all ≡ frames notes ++ rest → (all ≡ notes) × (rest ≡ [])
found_no notes all rest tn ta none is = by_more (frames_front notes all rest tn ta is)
  where
    by_more : Behind notes all rest → (all ≡ notes) × (rest ≡ [])
    by_more b = more_none b.more b.told b.rest_is b.all_are
      where
        more_none : (more : List Note) → AreWritable more → rest ≡ frames more → all ≡ notes ++ more → (all ≡ notes) × (rest ≡ [])
        more_none [] told rest_is all_are = (all_are ∙ append-nil notes, rest_is)
        more_none (m ∷ more) told rest_is all_are = absurd (none m (frames more) told.0 rest_is)

-- events were found at the front that end there, the last of them at a place
pub record Ended (bytes : List ℕ) (ends : List ℕ) (end : ℕ) (rest : List ℕ) : Type 0 where
  pub notes : List Note
  pub found : Found bytes notes rest
  pub ends_are : ends ≡ ends_from 0 notes
  pub end_is : end ≡ length (frames notes)

pub ended_none : (bytes : List ℕ) → Ended bytes [] 0 bytes
ended_none bytes = record { notes = []; found = found_none bytes; ends_are = refl; end_is = refl }

-- the ends of one event more
pub ends_more : (start : ℕ) (notes : List Note) (note : Note) → ends_from start (notes ++ note ∷ []) ≡ ends_from start notes ++ (start + length (frames (notes ++ note ∷ []))) ∷ []
ends_more start [] note = ap (λ (n : ℕ). (start + n) ∷ []) (ap length (sym (append-nil (framed note))))
ends_more start (n ∷ notes) note =
    let next = start + length (framed n) in
    let long : next + length (frames (notes ++ note ∷ [])) ≡ start + length (framed n ++ frames (notes ++ note ∷ [])) = omega (arith, length-append (framed n) (frames (notes ++ note ∷ []))) in
    ap (λ (l : List ℕ). next ∷ l) (ends_more next notes note ∙ ap (λ (m : ℕ). ends_from next notes ++ m ∷ []) long)

pub ended_more : (bytes ends : List ℕ) (end : ℕ) (rest : List ℕ) (note : Note) (behind more : List ℕ) (now : ℕ) → Ended bytes ends end rest → IsWritable note → rest ≡ framed note ++ behind
    → more ≡ ends ++ now ∷ [] → now + length behind ≡ end + length rest → Ended bytes more now behind
ended_more bytes ends end rest note behind more now so_far told is more_is grows =
    let notes = so_far.notes in
    let whole = frames_more notes note in
    let long = length-append (frames notes) (framed note) in
    let rest_len = ap length is ∙ length-append (framed note) behind in
    let now_is : now ≡ length (frames (notes ++ note ∷ [])) = omega (arith, ap length whole, long, rest_len, grows, so_far.end_is) in
    record {
      notes = notes ++ note ∷ [];
      found = found_more bytes notes rest note behind so_far.found told is;
      ends_are = more_is ∙ ap (λ (l : List ℕ). l ++ now ∷ []) so_far.ends_are ∙ ap (λ (n : ℕ). ends_from 0 notes ++ n ∷ []) (now_is ∙ sym (zero-add (length (frames (notes ++ note ∷ []))))) ∙ sym (ends_more 0 notes note);
      end_is = now_is;
    }

-- the gate is reached
pub ended_all : (gate : ℕ) (bytes ends : List ℕ) (end : ℕ) (rest : List ℕ) → Ended bytes ends end rest → length bytes ≤ gate → gate ≤ end → EndAt gate bytes ends
ended_all gate bytes ends end rest so_far few reached =
    let long = ap length so_far.found.bytes_are ∙ length-append (frames so_far.notes) rest in
    let none : rest ≡ [] = empty rest (omega (arith, long, few, reached, so_far.end_is)) in
    record {
      notes = so_far.notes;
      told = so_far.found.told;
      bytes_are = found_all bytes so_far.notes rest so_far.found none;
      gate_is = omega (arith, long, few, reached, so_far.end_is);
      ends_are = so_far.ends_are;
    }
  where
    empty : (l : List ℕ) → length l ≡ 0 → l ≡ []
    empty [] is = refl
    empty (x ∷ l) is = absurd (omega (arith, is))

-- no event begins what is left
pub ended_broken : (gate : ℕ) (bytes ends : List ℕ) (end : ℕ) (rest : List ℕ) (at : ℕ) → Ended bytes ends end rest → end < gate → NoNote rest → end ≡ at → BreakAt gate bytes at
ended_broken gate bytes ends end rest at so_far before none is = record {
  notes = so_far.notes;
  rest = rest;
  told = so_far.found.told;
  bytes_are = so_far.found.bytes_are;
  at_is = sym is ∙ so_far.end_is;
  before = omega (arith, before, is);
  none = none;
}

-- there is no more of the bytes than of the whole
pub ended_inside : (bytes ends : List ℕ) (end : ℕ) (rest : List ℕ) → Ended bytes ends end rest → end + length rest ≡ length bytes
ended_inside bytes ends end rest so_far =
    let long = ap length so_far.found.bytes_are ∙ length-append (frames so_far.notes) rest in omega (arith, long, so_far.end_is)
