-- A part of the file is the events from a number on.
use Rattle.std.proofs.Common.{◌≡◌, ◌∙◌, sym, ap, refl, ℕ, zero, suc, ◌-◌, ◌≤◌, List, [], ◌∷◌, ◌++◌, length, take, drop, Option, Some, None, option_map, IsTrue, arith, length-append, take-append-drop, append_assoc}
use Rattle.std.specs.List.{All}
use Rattle.std.proofs.lemmas.List.{take_at, drop_at, drop_all}
use Rattle.tier_base.specs.declared.plain.FileName.TheVariants as file
use Rattle.tier_base.specs.Told.{bytes_in}
use Rattle.disk_model.specs.Content.{Content, Lawful, part_of}
use Rattle.segment_meta.specs.declared.note.Note.{Note}
use Rattle.segment_meta.specs.Rules.{IsNote}
use Rattle.meta_log_file.specs.declared.marks.Tail.{Tail}
use Rattle.meta_log_file.specs.Notes.{frames, AreWritable}
use Rattle.meta_log_file.specs.Ends.{start_of}
use Rattle.meta_log_file.specs.Reading.{ReadsSpan}
use Rattle.meta_log_file.specs.Stands.{HasNotes, IsSure}
use Rattle.meta_log_file.specs.Told.{notes_told}
use Rattle.meta_log_file.proofs.Frames.{frames_append, frames_once}
use Rattle.meta_log_file.proofs.Telling.{disk_told}
use Rattle.meta_log_file.proofs.Holding.{holds_opens, ends_len, start_at, last_end}
use Rattle.meta_log_file.proofs.Written.{sure_all}

-- a part of no file
part_none : (at size : ℕ) → [] ≡ part_of at size []
part_none zero zero = refl
part_none zero (suc size) = refl
part_none (suc at) zero = refl
part_none (suc at) (suc size) = refl

-- the bytes of a part
pub part_bytes : (at size : ℕ) (held : Option (List ℕ)) → bytes_in (option_map (part_of at size) held) ≡ part_of at size (bytes_in held)
part_bytes at size None = part_none at size
part_bytes at size (Some bytes) = refl

-- a front of a front
pub front_bytes : (gate : ℕ) (held part : Option (List ℕ)) → part ≡ option_map (part_of 0 gate) held → take gate (bytes_in part) ≡ take gate (bytes_in held)
front_bytes gate held part is = ap (λ (f : Option (List ℕ)). take gate (bytes_in f)) is ∙ ap (take gate) (part_bytes 0 gate held) ∙ twice gate (bytes_in held)
  where
    twice : (n : ℕ) (l : List ℕ) → take n (take n l) ≡ take n l
    twice zero l = refl
    twice (suc n) [] = refl
    twice (suc n) (x ∷ l) = ap (λ (t : List ℕ). x ∷ t) (twice n l)

told_drop : (k : ℕ) (notes : List Note) → AreWritable notes → AreWritable (drop k notes)
told_drop zero notes told = told
told_drop (suc k) [] told = tt
told_drop (suc k) (n ∷ notes) told = told_drop k notes told.1

-- the rules hold of what is reported
pub told_rules : (notes : List Note) → AreWritable notes → All IsNote notes
told_rules [] told k d low = absurd (omega (arith, low))
told_rules (n ∷ notes) told zero d low = told.0.rules
told_rules (n ∷ notes) told (suc k) d low = told_rules notes told.1 k d (omega (arith, low))

-- the events from a number on, as they are in the file
pub record Span (d : Content) (from at size : ℕ) : Type 0 where
  pub notes : List Note
  pub told : AreWritable notes
  pub bytes : part_of at size (bytes_in (d.files file.Notes)) ≡ frames notes
  pub long : length (frames notes) ≡ size
  pub are : notes ≡ drop from (notes_told d)

pub span_of : (d : Content) (laws : Lawful d) (ends : List ℕ) (tail : Tail) (h : HasNotes d ends tail) (from at end size : ℕ) → IsSure tail → IsTrue d.is_observable → from ≤ length ends → at ≡ start_of ends from → end ≡ start_of ends (length ends) → size ≡ end - at → Span d from at size
span_of d laws ends tail h from at end size sure is_observable within at_is end_is size_is =
    let notes = h.notes in
    let here = sure_all d notes tail h.stands sure d.files (laws.reads is_observable) in
    let few : from ≤ length notes = (let l = ap length h.ends_are ∙ ends_len 0 notes in omega (arith, l, within)) in
    let parts : frames notes ≡ frames (take from notes) ++ frames (drop from notes) = ap frames (sym (take-append-drop from notes)) ∙ frames_append (take from notes) (drop from notes) in
    let start : at ≡ length (frames (take from notes)) = at_is ∙ ap (λ (l : List ℕ). start_of l from) h.ends_are ∙ start_at notes from few in
    let whole = last_end ends notes h.ends_are in
    let long = ap length parts ∙ length-append (frames (take from notes)) (frames (drop from notes)) in
    let size_now : length (frames (drop from notes)) ≡ size = omega (arith, long, whole, start, end_is, size_is) in
    let file_is : bytes_in (d.files file.Notes) ≡ frames (take from notes) ++ (frames (drop from notes) ++ here.front.behind) =
    here.front.is ∙ ap (λ (b : List ℕ). b ++ here.front.behind) parts ∙ append_assoc (frames (take from notes)) (frames (drop from notes)) here.front.behind in
    record {
      notes = drop from notes;
      told = told_drop from notes h.told;
      bytes = ap (part_of at size) file_is
          ∙ ap (take size) (drop_at (frames (take from notes)) (frames (drop from notes) ++ here.front.behind) at (sym start))
          ∙ take_at (frames (drop from notes)) here.front.behind size size_now;
      long = size_now;
      are = ap (drop from) (sym (disk_told d notes is_observable (holds_opens notes d.files h.told h.low here)));
    }

-- the events that were read are those
pub span_notes : (d : Content) (from at size : ℕ) (part : Option (List ℕ)) (notes : List Note) → Span d from at size → part ≡ option_map (part_of at size) (d.files file.Notes) → ReadsSpan size (bytes_in part) (Some notes) → notes ≡ drop from (notes_told d)
span_notes d from at size part notes s is read =
    let bytes = ap bytes_in is ∙ part_bytes at size (d.files file.Notes) ∙ s.bytes in
    frames_once notes s.notes read.0 s.told (sym read.1 ∙ bytes) ∙ s.are

-- and they are valid
pub span_reads : (d : Content) (from at size : ℕ) (part : Option (List ℕ)) → Span d from at size → part ≡ option_map (part_of at size) (d.files file.Notes) → ReadsSpan size (bytes_in part) None → ⊥
span_reads d from at size part s is none = none s.notes s.told s.long (ap bytes_in is ∙ part_bytes at size (d.files file.Notes) ∙ s.bytes)

-- past the last event there is none
pub none_from : (d : Content) (laws : Lawful d) (ends : List ℕ) (tail : Tail) (h : HasNotes d ends tail) (from : ℕ) → IsSure tail → IsTrue d.is_observable → length ends ≤ from → drop from (notes_told d) ≡ []
none_from d laws ends tail h from sure is_observable past =
    let here = sure_all d h.notes tail h.stands sure d.files (laws.reads is_observable) in
    let is = disk_told d h.notes is_observable (holds_opens h.notes d.files h.told h.low here) in
    let l = ap length h.ends_are ∙ ends_len 0 h.notes in
    ap (drop from) is ∙ drop_all from h.notes (omega (arith, l, past))
