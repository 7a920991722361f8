-- What was written of an event is read as that event.
use Rattle.std.proofs.Common.{◌≡◌, ◌≢◌, ◌∙◌, ap, sym, refl, ℕ, ◌+◌, ◌*◌, ◌^◌, ◌<◌, ◌≤◌, nat_lt, Bool, true, false, ℤ, List, [], ◌∷◌, ◌++◌, length, Option, Some, None, is_some, Ok, arith, append_assoc, append-nil, length-append, eq-eqb, le-ltb, FitsSigned}
use Rattle.std.specs.List.{AllByRecursion}
use Rattle.std.specs.Int.{w16, w32, w64, to_be_bytes, cast_unsigned}
use Rattle.std.proofs.lemmas.Bool.{lt-ltb, le-leb}
use Rattle.std.proofs.lemmas.List.{take_at, drop_at}
use Rattle.std.proofs.lemmas.Nat.{from_be_bytes-to_be_bytes_2, from_be_bytes-to_be_bytes_4, from_be_bytes-to_be_bytes_8}
use Rattle.std.proofs.lemmas.Int.{ints, to_z-of_z}
use Rattle.tier_base.specs.declared.plain.State.{State}
use Rattle.tier_base.specs.declared.plain.State.TheVariants.{CopyStarted, CopyFinished, DeleteStarted, DeleteFinished}
use Rattle.tier_base.specs.declared.names.SegmentId.{SegmentId}
use Rattle.tier_base.specs.declared.names.BrokerId.{BrokerId}
use Rattle.epoch_line.specs.Line.{IsLine}
use Rattle.segment_meta.specs.declared.note.Entry.{Entry}
use Rattle.segment_meta.specs.declared.note.Front.{Front}
use Rattle.segment_meta.specs.declared.note.Note.{Note}
use Rattle.segment_meta.specs.declared.note.Note.TheVariants.{Add, Update}
use Rattle.segment_meta.specs.Rules.{IsMap, IsAdded, IsCustom, MayHaveCustom, IsNote, EntryFits, NoteFits}
use Rattle.segment_meta.specs.Spelling.{ts_bytes, pair_bytes, pairs_bytes, span_bytes, event_bytes, entry_bytes, version_of, custom_bytes, packed_bytes, update_bytes, note_bytes}
use Rattle.segment_meta.specs.Reading.{cut_at, number_at, ts_at, id_at, range_at, front_at, pair_at, pairs_at, packed_in, entry_of, added_in, size_may, custom_in, updated_in, kind_in, note_in}

-- so many bytes are cut off again
cut-again : (size : ℕ) (field rest : List ℕ) → length field ≡ size → cut_at size (field ++ rest) ≡ Ok (field, rest)
cut-again size field rest e =
    let fits : nat_lt (length (field ++ rest)) size ≡ false = le-ltb (length (field ++ rest)) size (grind (arith, length-append)) in
    rw (fits, take_at field rest size e, drop_at field rest size e) refl

-- a number is read again
u16-again : (n : ℕ) (rest : List ℕ) → n < 2 ^ 16 → number_at w16 (to_be_bytes w16 n ++ rest) ≡ Ok (n, rest)
unfolding number_at
u16-again n rest h = rw (cut-again 2 (to_be_bytes w16 n) rest refl, from_be_bytes-to_be_bytes_2 n h) refl

u32-again : (n : ℕ) (rest : List ℕ) → n < 2 ^ 32 → number_at w32 (to_be_bytes w32 n ++ rest) ≡ Ok (n, rest)
unfolding number_at
u32-again n rest h = rw (cut-again 4 (to_be_bytes w32 n) rest refl, from_be_bytes-to_be_bytes_4 n h) refl

u64-again : (n : ℕ) (rest : List ℕ) → n < 2 ^ 64 → number_at w64 (to_be_bytes w64 n ++ rest) ≡ Ok (n, rest)
unfolding number_at
u64-again n rest h = rw (cut-again 8 (to_be_bytes w64 n) rest refl, from_be_bytes-to_be_bytes_8 n h) refl

-- a timestamp is read again
ts-again : (ts : ℤ) (rest : List ℕ) → FitsSigned w64 ts → ts_at (ts_bytes ts ++ rest) ≡ Ok (ts, rest)
unfolding ts_at ts_bytes
ts-again ts rest h =
    let wide : cast_unsigned w64 ts < 2 ^ 64 = grind (arith, ints) in
    rw (u64-again (cast_unsigned w64 ts) rest wide, to_z-of_z w64 ts h) refl

-- an id is read again
id-again : (id : SegmentId) (rest : List ℕ) → length id.0 ≡ 16 → id_at (id.0 ++ rest) ≡ Ok (id, rest)
unfolding id_at
id-again id rest h = rw (cut-again 16 id.0 rest h) refl

-- a segment's offsets are read again
range-again : (start end : ℕ) (rest : List ℕ) → start ≤ end → end < 2 ^ 62
    → range_at (to_be_bytes w64 start ++ (to_be_bytes w64 end ++ rest)) ≡ Ok ((start, end), rest)
unfolding range_at
range-again start end rest ordered high =
    rw (
      u64-again start (to_be_bytes w64 end ++ rest) (omega (arith, ordered, high)),
      u64-again end rest (omega (arith, high)),
      le-leb start end ordered,
      lt-ltb end (2 ^ 62) high,
    ) refl

-- the front of an entry
abbrev front_of : Entry → Front
front_of entry = record {
  partition = entry.partition;
  start = entry.start;
  end = entry.end;
  max_ts = entry.max_ts;
  broker = entry.broker;
  event_ts = entry.event_ts;
  size = entry.size;
}

-- it is read again
front-again : (entry : Entry) (rest : List ℕ) → EntryFits entry → IsAdded entry
    → front_at (to_be_bytes w16 entry.partition.0 ++ (to_be_bytes w64 entry.start ++ (to_be_bytes w64 entry.end
    ++ (ts_bytes entry.max_ts ++ (to_be_bytes w16 entry.broker.0 ++ (ts_bytes entry.event_ts ++ (to_be_bytes w32 entry.size ++ 0 ∷ rest)))))))
    ≡ Ok (front_of entry, rest)
unfolding front_at
front-again entry rest fits rules =
    let r7 = 0 ∷ rest in
    let r6 = to_be_bytes w32 entry.size ++ r7 in
    let r5 = ts_bytes entry.event_ts ++ r6 in
    let r4 = to_be_bytes w16 entry.broker.0 ++ r5 in
    let r3 = ts_bytes entry.max_ts ++ r4 in
    rw (
      u16-again entry.partition.0 (to_be_bytes w64 entry.start ++ (to_be_bytes w64 entry.end ++ r3)) fits.partition,
      range-again entry.start entry.end r3 rules.ordered rules.bounded,
      ts-again entry.max_ts r4 fits.max_ts,
      u16-again entry.broker.0 r5 fits.broker,
      ts-again entry.event_ts r6 fits.event_ts,
      u32-again entry.size r7 fits.size,
    ) refl

-- an epoch after another is read again
pair-again : (start end at : ℕ) (l p : ℕ × ℕ) (rest : List ℕ) → p.0 < 2 ^ 31 → p.1 ≤ 2 ^ 62 → l.0 < p.0 → l.1 < p.1 → p.1 ≤ end
    → pair_at start end at (Some l) (pair_bytes p ++ rest) ≡ Ok (p, rest)
unfolding pair_at pair_bytes
pair-again start end at l p rest fits fits' epochs starts within =
    rw (
      append_assoc (to_be_bytes w32 p.0) (to_be_bytes w64 p.1) rest,
      u32-again p.0 (to_be_bytes w64 p.1 ++ rest) (omega (arith, fits)),
      lt-ltb p.0 (2 ^ 31) fits,
      lt-ltb l.0 p.0 epochs,
      u64-again p.1 rest (omega (arith, fits')),
      lt-ltb l.1 p.1 starts,
      le-leb p.1 end within,
    ) refl

-- and so is the first one
first-again : (start end at : ℕ) (p : ℕ × ℕ) (rest : List ℕ) → p.0 < 2 ^ 31 → p.1 ≤ 2 ^ 62 → p.1 ≡ start
    → pair_at start end at None (pair_bytes p ++ rest) ≡ Ok (p, rest)
unfolding pair_at pair_bytes
first-again start end at p rest fits fits' begins =
    rw (
      append_assoc (to_be_bytes w32 p.0) (to_be_bytes w64 p.1) rest,
      u32-again p.0 (to_be_bytes w64 p.1 ++ rest) (omega (arith, fits)),
      lt-ltb p.0 (2 ^ 31) fits,
      u64-again p.1 rest (omega (arith, fits')),
      eq-eqb p.1 start begins,
    ) refl

-- epochs after another are read again
pairs-again : (start end at : ℕ) (l : ℕ × ℕ) (pairs : List (ℕ × ℕ)) (rest : List ℕ) → IsLine (l ∷ pairs) → AllByRecursion (λ pair. pair.1 ≤ end) pairs
    → pairs_at start end (length pairs) at (Some l) (pairs_bytes pairs ++ rest) ≡ Ok (pairs, rest)
pairs-again start end at l [] rest line within = refl
pairs-again start end at l (p ∷ pairs) rest line within =
    rw (
      append_assoc (pair_bytes p) (pairs_bytes pairs) rest,
      pair-again start end at l p (pairs_bytes pairs ++ rest) line.3.0 line.3.1 line.2.0 line.2.1 within.0,
      pairs-again start end (at + 12) p pairs rest line.3 within.1,
    ) refl

-- a map is read again
map-again : (start end : ℕ) (pairs : List (ℕ × ℕ)) (rest : List ℕ) → IsMap start end pairs
    → pairs_at start end (length pairs) 63 None (pairs_bytes pairs ++ rest) ≡ Ok (pairs, rest)
map-again start end [] rest map = refl
map-again start end (p ∷ pairs) rest map =
    rw (
      append_assoc (pair_bytes p) (pairs_bytes pairs) rest,
      first-again start end 63 p (pairs_bytes pairs ++ rest) map.line.0 map.line.1 map.first,
      pairs-again start end 75 p pairs rest map.line map.within.1,
    ) refl

-- a map has an epoch
map-some : (start end : ℕ) (pairs : List (ℕ × ℕ)) → IsMap start end pairs → 0 < length pairs
map-some start end [] map = absurd map.first
map-some start end (p ∷ pairs) map = omega arith

-- the spelling of an entry, field by field
regrouped : (entry : Entry) (rest : List ℕ) → entry.state ≡ CopyStarted → span_bytes entry ++ (event_bytes entry ++ rest)
    ≡ entry.id.0 ++ (to_be_bytes w16 entry.partition.0 ++ (to_be_bytes w64 entry.start ++ (to_be_bytes w64 entry.end
    ++ (ts_bytes entry.max_ts ++ (to_be_bytes w16 entry.broker.0 ++ (ts_bytes entry.event_ts ++ (to_be_bytes w32 entry.size ++ 0 ∷ rest)))))))
unfolding span_bytes event_bytes
regrouped entry rest started =
    let size = to_be_bytes w32 entry.size ++ 0 ∷ [] in
    let event = to_be_bytes w16 entry.broker.0 ++ (ts_bytes entry.event_ts ++ size) in
    rw (
      started,
      append_assoc entry.id.0 (to_be_bytes w16 entry.partition.0 ++ (to_be_bytes w64 entry.start ++ to_be_bytes w64 entry.end)) ((ts_bytes entry.max_ts ++ event) ++ rest),
      append_assoc (ts_bytes entry.max_ts) event rest,
      append_assoc (ts_bytes entry.event_ts) size rest,
    ) refl

-- the parts of an entry that is added are the entry
entry-same : (entry : Entry) → IsAdded entry → entry_of entry.packed entry.id (front_of entry) entry.map ≡ entry
entry-same entry rules =
    ap (λ s. record entry { state = s; custom = None }) (sym rules.started) ∙ ap (λ c. record entry { custom = c }) (sym rules.bare)

-- that an entry is packed is read again
packed-again : (packed : Bool) (at : ℕ) → packed_in packed at (packed_bytes packed) ≡ Ok tt
unfolding packed_in number_at
packed-again false at = refl
packed-again true at = refl

-- an entry that is added is read again
added-again : (entry : Entry) → EntryFits entry → IsAdded entry
    → added_in entry.packed (entry_bytes entry ++ packed_bytes entry.packed) ≡ Ok (Add entry)
unfolding added_in entry_bytes
added-again entry fits rules =
    let tail = packed_bytes entry.packed in
    let map = pairs_bytes entry.map in
    let count = to_be_bytes w32 (length entry.map) in
    rw (
      append_assoc (span_bytes entry) (event_bytes entry ++ (count ++ map)) tail,
      append_assoc (event_bytes entry) (count ++ map) tail,
      append_assoc count map tail,
      regrouped entry (count ++ (map ++ tail)) rules.started,
      id-again entry.id _ fits.id.size,
      front-again entry (count ++ (map ++ tail)) fits rules,
      u32-again (length entry.map) (map ++ tail) (omega (arith, rules.map.few)),
      lt-ltb 0 (length entry.map) (map-some entry.start entry.end entry.map rules.map),
      le-leb (length entry.map) 67108864 rules.map.few,
      map-again entry.start entry.end entry.map tail rules.map,
      packed-again entry.packed (63 + 12 * length entry.map),
    ) (ap (λ (t : Entry). Ok (Add t)) (entry-same entry rules))

-- the length of custom metadata passes its test
size-passes : (state : State) (bytes : List ℕ) → IsCustom state bytes → size_may state (length bytes) ≡ true
size-passes CopyFinished bytes c = le-leb (length bytes) 128 c.few
size-passes CopyStarted bytes c = let none : bytes ≡ [] = c.bare (λ wrong. absurd (cc)) in rw none refl
size-passes DeleteStarted bytes c = let none : bytes ≡ [] = c.bare (λ wrong. absurd (cc)) in rw none refl
size-passes DeleteFinished bytes c = let none : bytes ≡ [] = c.bare (λ wrong. absurd (cc)) in rw none refl

-- custom metadata is read again
custom-again : (state : State) (custom : Option (List ℕ)) → MayHaveCustom state custom
    → custom_in (is_some custom) state (custom_bytes custom) ≡ Ok custom
unfolding custom_in
custom-again state None may = refl
custom-again state (Some bytes) may =
    let all : cut_at (length bytes) bytes ≡ Ok (bytes, []) = rw (append-nil bytes) at (cut-again (length bytes) bytes [] refl) in
    rw (u16-again (length bytes) bytes (omega (arith, may.few)), size-passes state bytes may, all) refl

-- an update is read again
updated-again : (id : SegmentId) (broker : BrokerId) (event_ts : ℤ) (state : State) (custom : Option (List ℕ))
    → length id.0 ≡ 16 → broker.0 < 2 ^ 16 → FitsSigned w64 event_ts
    → state ≢ CopyStarted → MayHaveCustom state custom
    → updated_in (is_some custom) (update_bytes id broker event_ts state custom) ≡ Ok (Update id broker event_ts state custom)
unfolding updated_in update_bytes
updated-again id broker event_ts CopyStarted custom long fits fits' later may = absurd (later refl)
updated-again id broker event_ts CopyFinished custom long fits fits' later may =
    let told = custom_bytes custom in
    rw (id-again id _ long, u16-again broker.0 (ts_bytes event_ts ++ 1 ∷ told) fits, ts-again event_ts (1 ∷ told) fits', custom-again CopyFinished custom may) refl
updated-again id broker event_ts DeleteStarted custom long fits fits' later may =
    let told = custom_bytes custom in
    rw (id-again id _ long, u16-again broker.0 (ts_bytes event_ts ++ 2 ∷ told) fits, ts-again event_ts (2 ∷ told) fits', custom-again DeleteStarted custom may) refl
updated-again id broker event_ts DeleteFinished custom long fits fits' later may =
    let told = custom_bytes custom in
    rw (id-again id _ long, u16-again broker.0 (ts_bytes event_ts ++ 3 ∷ told) fits, ts-again event_ts (3 ∷ told) fits', custom-again DeleteFinished custom may) refl

-- a version is read again
version-again : (packed : Bool) (bytes : List ℕ) → note_in (version_of packed ∷ bytes) ≡ kind_in packed bytes
unfolding note_in
version-again false bytes = refl
version-again true bytes = refl

-- what was written of an event is read as that event
pub note_again : (note : Note) → IsNote note → NoteFits note → note_in (note_bytes note) ≡ Ok note
unfolding note_bytes
note_again (Add entry) rules fits =
    version-again entry.packed (0 ∷ (entry_bytes entry ++ packed_bytes entry.packed)) ∙ added-again entry fits rules
note_again (Update id broker event_ts state custom) rules fits =
    version-again (is_some custom) (1 ∷ update_bytes id broker event_ts state custom)
    ∙ updated-again id broker event_ts state custom fits.0.size fits.1 fits.2 rules.0 rules.1
