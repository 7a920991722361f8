-- The event that begins bytes, if one does.
use Rattle.std.proofs.Common.{◌≡◌, ◌∙◌, sym, ap, subst, refl, ℕ, ◌<◌, ◌≤◌, List, ◌++◌, length, take, drop, Ok, Err, arith, length-append, length-take, length-drop, take-append-drop, append_assoc, get_or, Fits, w8}
use Rattle.std.specs.List.{All}
use Rattle.std.specs.Int.{w32, to_be_bytes}
use Rattle.std.proofs.lemmas.List.{get_or_default}
use Rattle.std.proofs.lemmas.List.Elements.{All-take, All-drop}
use Rattle.std.proofs.lemmas.Nat.{be_bytes_4}
use Rattle.segment_meta.specs.declared.note.Note.{Note}
use Rattle.segment_meta.specs.declared.refusal.NoteRefusal.{NoteRefusal}
use Rattle.segment_meta.specs.declared.refusal.NoteRefusal.TheVariants.{Short, BadVersion, BadState, Bad, NoMemory}
use Rattle.segment_meta.specs.Spelling.{note_bytes}
use Rattle.segment_meta.specs.Reading.{note_in, Refuses}
use Rattle.segment_meta.proofs.Again.{note_again}
use Rattle.segment_meta.proofs.OneSpelling.{one_spelling}
use Rattle.segment_meta.proofs.Standing.{each_byte}
use Rattle.meta_log_file.specs.Notes.{framed}
use Rattle.meta_log_file.specs.Reading.{NoNote}
use Rattle.meta_log_file.specs.Told.{size_in}
use Rattle.meta_log_file.proofs.Frames.{framed_len, size_again, body_again}

-- too few bytes for a length
pub none_short : (bytes : List ℕ) → length bytes < 4 → NoNote bytes
none_short bytes short note behind told is =
    let long = ap length is in
    let parts = length-append (framed note) behind in
    let size = framed_len note in
    absurd (omega (arith, long, parts, size, short))

-- too few bytes for the event
pub none_cut : (bytes : List ℕ) → 4 ≤ length bytes → length (drop 4 bytes) < size_in bytes → NoNote bytes
none_cut bytes four short note behind told is =
    let long = ap length is in
    let parts = length-append (framed note) behind in
    let size = framed_len note in
    let says = ap size_in is ∙ size_again note behind told in
    let rest = length-drop 4 bytes in
    absurd (omega (arith, long, parts, size, says, short, rest))

-- bytes that say no event
pub none_bad : (bytes : List ℕ) (why : NoteRefusal) → note_in (take (size_in bytes) (drop 4 bytes)) ≡ Err why → NoNote bytes
none_bad bytes why bad note behind told is =
    let body = ap (λ (b : List ℕ). take (size_in b) (drop 4 b)) is ∙ body_again note behind told in
    let read = ap note_in body ∙ note_again note told.rules told.fits in
    absurd (cc)

-- a refusal that isn't running out of memory
pub refused : (why : NoteRefusal) (bytes : List ℕ) → (why ≡ NoMemory → ⊥) → Refuses why (note_in bytes) → note_in bytes ≡ Err why
refused Short bytes not is = is
refused BadVersion bytes not is = is
refused BadState bytes not is = is
refused (Bad at) bytes not is = is
refused NoMemory bytes not is = absurd (not refl)

-- each byte is below 256
pub all_bytes : (bytes : List ℕ) → ((i : ℕ) → Fits w8 (get_or bytes i 0)) → All (λ b. b < 256) bytes
all_bytes bytes each k d low = subst (λ (b : ℕ). b < 256) (get_or_default bytes k 0 d low) (omega (arith, each k))

-- bytes that say an event
pub some_first : (bytes : List ℕ) (note : Note) → All (λ b. b < 256) bytes → 4 ≤ length bytes → size_in bytes ≤ length (drop 4 bytes)
    → note_in (take (size_in bytes) (drop 4 bytes)) ≡ Ok note → bytes ≡ framed note ++ drop (size_in bytes) (drop 4 bytes)
unfolding framed size_in
some_first bytes note each four long read =
    let size = size_in bytes in
    let rest = drop 4 bytes in
    let body : take size rest ≡ note_bytes note = one_spelling (take size rest) note (All-take (λ b. b < 256) size rest (All-drop (λ b. b < 256) 4 bytes each)) read in
    let len : length (take size rest) ≡ size = grind (arith, length-take) in
    let is_size : length (note_bytes note) ≡ size = ap length (sym body) ∙ len in
    let front : to_be_bytes w32 size ≡ take 4 bytes = be_bytes_4 (take 4 bytes) size (grind (arith, length-take)) (each_byte (take 4 bytes) (All-take (λ b. b < 256) 4 bytes each)) refl in
    let head : take 4 bytes ≡ to_be_bytes w32 (length (note_bytes note)) = sym front ∙ ap (to_be_bytes w32) (sym is_size) in
    sym (take-append-drop 4 bytes)
    ∙ ap (λ (b : List ℕ). b ++ rest) head
    ∙ ap (λ (b : List ℕ). to_be_bytes w32 (length (note_bytes note)) ++ b) (sym (take-append-drop size rest) ∙ ap (λ (b : List ℕ). b ++ drop size rest) body)
    ∙ sym (append_assoc (to_be_bytes w32 (length (note_bytes note))) (note_bytes note) (drop size rest))
