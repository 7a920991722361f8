-- Events as they are in the file.
use Rattle.std.proofs.Common.{◌≡◌, ◌∙◌, sym, ap, refl, ℕ, ◌+◌, ◌*◌, ◌<◌, ◌≤◌, ◌^◌, Bool, true, false, List, [], ◌∷◌, ◌++◌, length, take, drop, Some, None, arith, length-append, append_assoc}
use Rattle.std.specs.Int.{w32, w64, to_be_bytes, from_be_bytes}
use Rattle.std.proofs.lemmas.List.{take_at, drop_at, append-nil}
use Rattle.std.proofs.lemmas.Nat.{from_be_bytes-to_be_bytes_4, from_be_bytes-to_be_bytes_8}
use Rattle.segment_meta.specs.declared.note.Note.{Note}
use Rattle.segment_meta.specs.declared.note.Note.TheVariants.{Add, Update}
use Rattle.segment_meta.specs.Spelling.{ts_bytes, pair_bytes, pairs_bytes, span_bytes, event_bytes, entry_bytes, packed_bytes, update_bytes, note_bytes}
use Rattle.segment_meta.specs.Reading.{note_in}
use Rattle.segment_meta.proofs.Again.{note_again}
use Rattle.meta_log_file.specs.Notes.{framed, frames, gate_bytes, IsWritable, AreWritable}
use Rattle.meta_log_file.specs.Told.{size_in}

pairs_len : (pairs : List (ℕ × ℕ)) → length (pairs_bytes pairs) ≡ 12 * length pairs
unfolding pair_bytes
pairs_len [] = refl
pairs_len (p ∷ ps) = let more = pairs_len ps in let both = length-append (pair_bytes p) (pairs_bytes ps) in omega (arith, more, both)

packed_len : (packed : Bool) → length (packed_bytes packed) ≤ 2
packed_len false = omega arith
packed_len true = omega arith

-- an event is short
pub note_len : (note : Note) → IsWritable note → length (note_bytes note) < 2 ^ 32
unfolding note_bytes entry_bytes span_bytes event_bytes update_bytes ts_bytes
note_len (Add entry) told =
    let few = told.rules.map.few in
    let id = told.fits.id.size in
    let pairs = pairs_len entry.map in
    let tail = packed_len entry.packed in
    simp length-append (omega (arith, few, id, pairs, tail))
note_len (Update id broker event_ts state None) told =
    let id_len = told.fits.0.size in
    simp length-append (omega (arith, id_len))
note_len (Update id broker event_ts state (Some bytes)) told =
    let id_len = told.fits.0.size in
    let few = told.rules.1.few in
    simp length-append (omega (arith, id_len, few))

-- an event and its length
pub framed_len : (note : Note) → length (framed note) ≡ 4 + length (note_bytes note)
unfolding framed
framed_len note = length-append (to_be_bytes w32 (length (note_bytes note))) (note_bytes note)

-- what precedes an event's bytes
framed_size : (note : Note) (behind : List ℕ) → take 4 (framed note ++ behind) ≡ to_be_bytes w32 (length (note_bytes note))
unfolding framed
framed_size note behind =
    ap (take 4) (append_assoc (to_be_bytes w32 (length (note_bytes note))) (note_bytes note) behind)
    ∙ take_at (to_be_bytes w32 (length (note_bytes note))) (note_bytes note ++ behind) 4 refl

framed_body : (note : Note) (behind : List ℕ) → drop 4 (framed note ++ behind) ≡ note_bytes note ++ behind
unfolding framed
framed_body note behind =
    ap (drop 4) (append_assoc (to_be_bytes w32 (length (note_bytes note))) (note_bytes note) behind)
    ∙ drop_at (to_be_bytes w32 (length (note_bytes note))) (note_bytes note ++ behind) 4 refl

pub size_again : (note : Note) (behind : List ℕ) → IsWritable note → size_in (framed note ++ behind) ≡ length (note_bytes note)
unfolding size_in
size_again note behind told = ap (from_be_bytes w32) (framed_size note behind) ∙ from_be_bytes-to_be_bytes_4 (length (note_bytes note)) (note_len note told)

pub body_again : (note : Note) (behind : List ℕ) → IsWritable note → take (size_in (framed note ++ behind)) (drop 4 (framed note ++ behind)) ≡ note_bytes note
body_again note behind told =
    ap (λ (n : ℕ). take n (drop 4 (framed note ++ behind))) (size_again note behind told)
    ∙ ap (take (length (note_bytes note))) (framed_body note behind)
    ∙ take_at (note_bytes note) behind (length (note_bytes note)) refl

pub behind_again : (note : Note) (behind : List ℕ) → IsWritable note → drop (4 + size_in (framed note ++ behind)) (framed note ++ behind) ≡ behind
behind_again note behind told =
    ap (λ (n : ℕ). drop (4 + n) (framed note ++ behind)) (size_again note behind told)
    ∙ drop_at (framed note) behind (4 + length (note_bytes note)) (framed_len note)

-- two events at the front of the same bytes are one
pub record Same (n m : Note) (x y : List ℕ) : Type 0 where
  pub note : n ≡ m
  pub behind : x ≡ y

pub framed_once : (n m : Note) (x y : List ℕ) → IsWritable n → IsWritable m → framed n ++ x ≡ framed m ++ y → Same n m x y
framed_once n m x y tn tm is =
    let bodies : note_bytes n ≡ note_bytes m = sym (body_again n x tn) ∙ ap (λ (b : List ℕ). take (size_in b) (drop 4 b)) is ∙ body_again m y tm in
    let read = note_again n tn.rules tn.fits in
    let read_too = note_again m tm.rules tm.fits in
    let alike : note_in (note_bytes n) ≡ note_in (note_bytes m) = ap note_in bodies in
    record {
      note = cc;
      behind = sym (behind_again n x tn) ∙ ap (λ (b : List ℕ). drop (4 + size_in b) b) is ∙ behind_again m y tm;
    }

pub frames_append : (a b : List Note) → frames (a ++ b) ≡ frames a ++ frames b
frames_append [] b = refl
frames_append (n ∷ a) b = ap (λ (l : List ℕ). framed n ++ l) (frames_append a b) ∙ sym (append_assoc (framed n) (frames a) (frames b))

-- one event more
pub frames_more : (notes : List Note) (note : Note) → frames (notes ++ note ∷ []) ≡ frames notes ++ framed note
frames_more notes note = frames_append notes (note ∷ []) ∙ ap (λ (l : List ℕ). frames notes ++ l) (append-nil (framed note))

pub told_append : (a b : List Note) → AreWritable a → AreWritable b → AreWritable (a ++ b)
told_append [] b ta tb = tb
told_append (n ∷ a) b ta tb = (ta.0, told_append a b ta.1 tb)

-- what follows events that begin others
pub record Behind (notes all : List Note) (rest : List ℕ) : Type 0 where
  pub more : List Note
  pub told : AreWritable more
  pub rest_is : rest ≡ frames more
  pub all_are : all ≡ notes ++ more

pub frames_front : (notes all : List Note) (rest : List ℕ) → AreWritable notes → AreWritable all → frames all ≡ frames notes ++ rest → Behind notes all rest
frames_front [] all rest tn ta is = record { more = all; told = ta; rest_is = sym is; all_are = refl }
frames_front (n ∷ notes) [] rest tn ta is =
    let long = ap length is in
    let parts = length-append (framed n) (frames notes) in
    let whole = length-append (framed n ++ frames notes) rest in
    let size = framed_len n in
    absurd (omega (arith, long, parts, whole, size))
frames_front (n ∷ notes) (m ∷ all) rest tn ta is =
    let one = framed_once m n (frames all) (frames notes ++ rest) ta.0 tn.0 (is ∙ append_assoc (framed n) (frames notes) rest) in
    let tail = frames_front notes all rest tn.1 ta.1 one.behind in
    record {
      more = tail.more;
      told = tail.told;
      rest_is = tail.rest_is;
      all_are = ap (λ (l : List Note). m ∷ l) tail.all_are ∙ ap (λ (x : Note). x ∷ (notes ++ tail.more)) one.note;
    }

-- events are those that their bytes say
pub frames_once : (a b : List Note) → AreWritable a → AreWritable b → frames a ≡ frames b → a ≡ b
frames_once [] [] ta tb is = refl
frames_once [] (m ∷ b) ta tb is = (let long = ap length is in let parts = length-append (framed m) (frames b) in let size = framed_len m in absurd (omega (arith, long, parts, size)))
frames_once (n ∷ a) [] ta tb is = (let long = ap length is in let parts = length-append (framed n) (frames a) in let size = framed_len n in absurd (omega (arith, long, parts, size)))
frames_once (n ∷ a) (m ∷ b) ta tb is =
    let one = framed_once n m (frames a) (frames b) ta.0 tb.0 is in
    ap (λ (x : Note). x ∷ a) one.note ∙ ap (λ (l : List Note). m ∷ l) (frames_once a b ta.1 tb.1 one.behind)

-- there are no more events than bytes
pub frames_long : (notes : List Note) → length notes ≤ length (frames notes)
frames_long [] = omega arith
frames_long (n ∷ notes) = let more = frames_long notes in let parts = length-append (framed n) (frames notes) in let size = framed_len n in omega (arith, more, parts, size)

pub gate_len : (end : ℕ) → length (gate_bytes end) ≡ 8
unfolding gate_bytes
gate_len end = refl

-- a gate is at one place
pub gate_once : (a b : ℕ) → a < 2 ^ 64 → b < 2 ^ 64 → gate_bytes a ≡ gate_bytes b → a ≡ b
unfolding gate_bytes
gate_once a b la lb is = sym (from_be_bytes-to_be_bytes_8 a la) ∙ ap (from_be_bytes w64) is ∙ from_be_bytes-to_be_bytes_8 b lb

pub gate_again : (end : ℕ) → end < 2 ^ 64 → from_be_bytes w64 (gate_bytes end) ≡ end
unfolding gate_bytes
gate_again end low = from_be_bytes-to_be_bytes_8 end low
