-- What is read as an event keeps the rules, and is in the bytes as the event is spelled.
use Rattle.std.proofs.Common.{◌≡◌, ◌≢◌, ◌∙◌, ap, refl, ℕ, zero, suc, ◌+◌, ◌*◌, ◌^◌, ◌<◌, ◌≤◌, ◌==◌, ◌&&◌, nat_lt, nat_le, true, false, Bool, cond, List, [], ◌∷◌, ◌++◌, length, Option, Some, None, Result, Ok, Err, IfOk, arith, append_assoc, append-nil, is_some}
use Rattle.std.specs.List.{All, AllByRecursion}
use Rattle.std.specs.Int.{w16, w32, w64, to_be_bytes}
use Rattle.std.proofs.lemmas.Bool.{eqb-true}
use Rattle.tier_base.specs.declared.plain.State.{State}
use Rattle.tier_base.specs.declared.plain.State.TheVariants.{CopyStarted, CopyFinished, DeleteStarted, DeleteFinished}
use Rattle.epoch_line.specs.Line.{IsLine}
use Rattle.segment_meta.specs.declared.note.Front.{Front}
use Rattle.segment_meta.specs.declared.note.Note.{Note}
use Rattle.segment_meta.specs.declared.note.Note.TheVariants.{Add, Update}
use Rattle.segment_meta.specs.declared.refusal.NoteRefusal.{NoteRefusal}
use Rattle.segment_meta.specs.declared.refusal.NoteRefusal.TheVariants.{BadVersion, BadState, Bad}
use Rattle.segment_meta.specs.Rules.{IsMap, IsCustom, MayHaveCustom, IsNote}
use Rattle.segment_meta.specs.Spelling.{state_code, ts_bytes, pair_bytes, pairs_bytes, span_bytes, event_bytes, entry_bytes, version_of, custom_bytes, packed_bytes, update_bytes, note_bytes}
use Rattle.segment_meta.specs.Reading.{passing, cut_at, number_at, ts_at, id_at, byte_at, range_at, front_at, epoch_may, start_may, pair_at, pairs_at, packed_in, entry_of, added_in, later_state, size_may, custom_in, updated_in, kind_in, note_in, Answers}
use Rattle.segment_meta.proofs.Inverting.{peeled, ok_same, passed, whole_ok}
use Rattle.segment_meta.proofs.Mapping.{Follows, pair_follows}
use Rattle.segment_meta.proofs.Standing.{AreBytes, Stands, both, cut_long, cut_stands, u16_stands, u32_stands, u64_stands, ts_stands, id_stands, byte_stands}

-- the offsets of a segment
record Range (range : ℕ × ℕ) (bytes rest : List ℕ) : Type 0 where
  ordered : range.0 ≤ range.1
  bounded : range.1 < 2 ^ 62
  stands : AreBytes bytes → Stands (to_be_bytes w64 range.0 ++ to_be_bytes w64 range.1) bytes rest

range-read : (bytes : List ℕ) (range : ℕ × ℕ) (rest : List ℕ) → range_at bytes ≡ Ok (range, rest) → Range range bytes rest
unfolding range_at
range-read bytes range rest e =
    peeled (Range range bytes rest) (number_at w64 bytes) _ (range, rest) e
    (λ start is more.
    peeled (Range range bytes rest) (passing (λ n. nat_le start.0 n && nat_lt n (2 ^ 62)) (Bad 28) (number_at w64 start.1)) _ (range, rest) more
    (λ end was last.
    let good = passed (λ n. nat_le start.0 n && nat_lt n (2 ^ 62)) (Bad 28) (number_at w64 start.1) end was in
    let same = ok_same _ ((start.0, end.0), end.1) (range, rest) refl last in
    let value : (start.0, end.0) ≡ range = ap (λ (y : (ℕ × ℕ) × List ℕ). y.0) same in
    let back : end.1 ≡ rest = ap (λ (y : (ℕ × ℕ) × List ℕ). y.1) same in
    let tests : (start.0 ≤ end.0) × (end.0 < 2 ^ 62) = (grind (arith, good.1), grind (arith, good.1)) in record {
      ordered = rw (← value) tests.0;
      bounded = rw (← value) tests.1;
      stands = λ h.
          let first = u64_stands bytes start.0 start.1 h is in
          let second = u64_stands start.1 end.0 end.1 first.stands.left good.0 in
          rw (← value, ← back) (both first.stands second.stands);
    }))

-- a front's fields after the offsets
abbrev late_bytes : Front → List ℕ
late_bytes front =
    ts_bytes front.max_ts ++ (to_be_bytes w16 front.broker.0 ++ (ts_bytes front.event_ts ++ (to_be_bytes w32 front.size ++ 0 ∷ [])))

-- and those before
abbrev early_bytes : Front → List ℕ
early_bytes front = to_be_bytes w16 front.partition.0 ++ (to_be_bytes w64 front.start ++ to_be_bytes w64 front.end)

record FrontRead (front : Front) (bytes rest : List ℕ) : Type 0 where
  ordered : front.start ≤ front.end
  bounded : front.end < 2 ^ 62
  stands : AreBytes bytes → (mid : List ℕ) × Stands (early_bytes front) bytes mid × Stands (late_bytes front) mid rest

front-read : (bytes : List ℕ) (front : Front) (rest : List ℕ) → front_at bytes ≡ Ok (front, rest) → FrontRead front bytes rest
unfolding front_at
front-read bytes front rest e =
    let P = FrontRead front bytes rest in
    peeled P (number_at w16 bytes) _ (front, rest) e (λ partition e1 m1.
    peeled P (range_at partition.1) _ (front, rest) m1 (λ range e2 m2.
    peeled P (ts_at range.1) _ (front, rest) m2 (λ max_ts e3 m3.
    peeled P (number_at w16 max_ts.1) _ (front, rest) m3 (λ broker e4 m4.
    peeled P (ts_at broker.1) _ (front, rest) m4 (λ event_ts e5 m5.
    peeled P (number_at w32 event_ts.1) _ (front, rest) m5 (λ size e6 m6.
    peeled P (passing (λ code. code == 0) BadState (byte_at size.1)) _ (front, rest) m6 (λ state e7 m7.
    let offsets = range-read partition.1 range.0 range.1 e2 in
    let code = passed (λ c. c == 0) BadState (byte_at size.1) state e7 in
    let none : state.0 ≡ 0 = eqb-true state.0 0 code.1 in
    let value = ap (λ (y : Front × List ℕ). y.0) (ok_same _ _ (front, rest) refl m7) in
    let back = ap (λ (y : Front × List ℕ). y.1) (ok_same _ _ (front, rest) refl m7) in record {
      ordered = rw (← value) offsets.ordered;
      bounded = rw (← value) offsets.bounded;
      stands = λ h.
          let s1 = (u16_stands bytes partition.0 partition.1 h e1).stands in
          let s2 = offsets.stands s1.left in
          let s3 = ts_stands range.1 max_ts.0 max_ts.1 s2.left e3 in
          let s4 = (u16_stands max_ts.1 broker.0 broker.1 s3.left e4).stands in
          let s5 = ts_stands broker.1 event_ts.0 event_ts.1 s4.left e5 in
          let s6 = (u32_stands event_ts.1 size.0 size.1 s5.left e6).stands in
          let s7 : Stands (0 ∷ []) size.1 state.1 = rw (← none) (byte_stands size.1 state.0 state.1 s6.left code.0) in
          rw (← value, ← back) (range.1, both s1 s2, both s3 (both s4 (both s5 (both s6 s7))));
    })))))))

-- an epoch of the map
pair-read : (start end at : ℕ) (last : Option (ℕ × ℕ)) (bytes : List ℕ) (p : ℕ × ℕ) (rest : List ℕ)
    → pair_at start end at last bytes ≡ Ok (p, rest) → AreBytes bytes → Stands (pair_bytes p) bytes rest
unfolding pair_at pair_bytes
pair-read start end at last bytes p rest e h =
    let P = Stands (to_be_bytes w32 p.0 ++ to_be_bytes w64 p.1) bytes rest in
    peeled P (passing (epoch_may last) (Bad at) (number_at w32 bytes)) _ (p, rest) e (λ epoch e1 m1.
    peeled P (passing (start_may start end last) (Bad (at + 4)) (number_at w64 epoch.1)) _ (p, rest) m1 (λ first e2 m2.
    let is1 = passed (epoch_may last) (Bad at) (number_at w32 bytes) epoch e1 in
    let is2 = passed (start_may start end last) (Bad (at + 4)) (number_at w64 epoch.1) first e2 in
    let same = ok_same _ ((epoch.0, first.0), first.1) (p, rest) refl m2 in
    let value : (epoch.0, first.0) ≡ p = ap (λ (y : (ℕ × ℕ) × List ℕ). y.0) same in
    let back : first.1 ≡ rest = ap (λ (y : (ℕ × ℕ) × List ℕ). y.1) same in
    let s1 = (u32_stands bytes epoch.0 epoch.1 h is1.0).stands in
    let s2 = (u64_stands epoch.1 first.0 first.1 s1.left is2.0).stands in
    rw (← value, ← back) (both s1 s2)))

-- each epoch may follow the one before
abbrev Behind : ℕ → ℕ → Option (ℕ × ℕ) → List (ℕ × ℕ) → Type 0
Behind start end last [] = Unit {0}
Behind start end last (p ∷ pairs) = Follows start end last p × Behind start end (Some p) pairs

record PairsRead (start end count : ℕ) (last : Option (ℕ × ℕ)) (pairs : List (ℕ × ℕ)) (bytes rest : List ℕ) : Type 0 where
  long : length pairs ≡ count
  behind : start ≤ end → Behind start end last pairs
  stands : AreBytes bytes → Stands (pairs_bytes pairs) bytes rest

pairs-read : (start end count at : ℕ) (last : Option (ℕ × ℕ)) (bytes : List ℕ) (pairs : List (ℕ × ℕ)) (rest : List ℕ)
    → pairs_at start end count at last bytes ≡ Ok (pairs, rest) → PairsRead start end count last pairs bytes rest
pairs-read start end zero at last bytes pairs rest e =
    let same = ok_same _ ([], bytes) (pairs, rest) refl e in
    let value : [] ≡ pairs = ap (λ (y : List (ℕ × ℕ) × List ℕ). y.0) same in
    let back : bytes ≡ rest = ap (λ (y : List (ℕ × ℕ) × List ℕ). y.1) same in
    rw (← value, ← back) (record { long = refl; behind = λ ordered. tt; stands = λ h. record { parts = refl; left = h } })
pairs-read start end (suc count) at last bytes pairs rest e =
    let P = PairsRead start end (suc count) last pairs bytes rest in
    peeled P (pair_at start end at last bytes) _ (pairs, rest) e (λ p e1 m1.
    peeled P (pairs_at start end count (at + 12) (Some p.0) p.1) _ (pairs, rest) m1 (λ others e2 m2.
    let same = ok_same _ (p.0 ∷ others.0, others.1) (pairs, rest) refl m2 in
    let value : p.0 ∷ others.0 ≡ pairs = ap (λ (y : List (ℕ × ℕ) × List ℕ). y.0) same in
    let back : others.1 ≡ rest = ap (λ (y : List (ℕ × ℕ) × List ℕ). y.1) same in
    let more = pairs-read start end count (at + 12) (Some p.0) p.1 others.0 others.1 e2 in
    rw (← value, ← back)
    (record {
      long = ap (λ n. suc n) more.long;
      behind = λ ordered. (pair_follows start end at last bytes p.0 p.1 ordered e1, more.behind ordered);
      stands = λ h. let s = pair-read start end at last bytes p.0 p.1 e1 h in both s (more.stands s.left);
    })))

-- epochs after a last one are a line with it
behind-line : (start end : ℕ) (l : ℕ × ℕ) (pairs : List (ℕ × ℕ)) → end < 2 ^ 62 → l.0 < 2 ^ 31 → l.1 ≤ end
    → Behind start end (Some l) pairs → IsLine (l ∷ pairs) × AllByRecursion (λ pair. pair.1 ≤ end) pairs
behind-line start end l [] high fits fits' h = ((fits, omega (arith, high, fits'), tt, tt), tt)
behind-line start end l (p ∷ pairs) high fits fits' h =
    let rest = behind-line start end p pairs high h.0.epoch h.0.first h.1 in
    ((fits, omega (arith, high, fits'), h.0.above l refl, rest.0), (h.0.first, rest.1))

-- and from the first one on they are a map
behind-map : (start end count : ℕ) (pairs : List (ℕ × ℕ)) → end < 2 ^ 62 → 0 < count → count ≤ 67108864 → length pairs ≡ count
    → Behind start end None pairs → IsMap start end pairs
behind-map start end count [] high some few long h = absurd (omega (arith, some, long))
behind-map start end count (p ∷ pairs) high some few long h =
    let rest = behind-line start end p pairs high h.0.epoch h.0.first h.1 in record {
      line = rest.0;
      first = h.0.begins refl;
      within = (h.0.first, rest.1);
      few = omega (arith, few, long);
    }

-- that an entry is packed
packed-read : (packed : Bool) (at : ℕ) (bytes : List ℕ) (end : Unit {0}) → packed_in packed at bytes ≡ Ok end → AreBytes bytes
    → bytes ≡ packed_bytes packed
unfolding packed_in
packed-read false at bytes end e h = (whole_ok at tt end bytes e).1
packed-read true at bytes end e h =
    peeled (bytes ≡ packed_bytes true) (passing (λ n. n == 0) (Bad at) (number_at w16 bytes)) _ end e (λ size e1 m1.
    let is = passed (λ n. n == 0) (Bad at) (number_at w16 bytes) size e1 in
    let none : size.0 ≡ 0 = eqb-true size.0 0 is.1 in
    let left = whole_ok (at + 2) tt end size.1 m1 in
    (u16_stands bytes size.0 size.1 h is.0).stands.parts ∙ (rw (none, left.1) refl))

-- a length that passed its test is that of custom metadata
empty : (bytes : List ℕ) → length bytes ≡ 0 → bytes ≡ []
empty [] none = refl
empty (b ∷ bytes) none = absurd (omega (arith, none))

is-custom : (state : State) (bytes : List ℕ) (n : ℕ) → length bytes ≡ n → size_may state n ≡ true → IsCustom state bytes
is-custom CopyFinished bytes n long may = record { few = grind (arith, long, may); bare = λ wrong. absurd (wrong refl) }
is-custom CopyStarted bytes n long may =
    let none = eqb-true n 0 may in record { few = omega (arith, long, none); bare = λ late. empty bytes (long ∙ none) }
is-custom DeleteStarted bytes n long may =
    let none = eqb-true n 0 may in record { few = omega (arith, long, none); bare = λ late. empty bytes (long ∙ none) }
is-custom DeleteFinished bytes n long may =
    let none = eqb-true n 0 may in record { few = omega (arith, long, none); bare = λ late. empty bytes (long ∙ none) }

record CustomRead (packed : Bool) (state : State) (custom : Option (List ℕ)) (bytes : List ℕ) : Type 0 where
  told : packed ≡ is_some custom
  may : MayHaveCustom state custom
  spelled : AreBytes bytes → bytes ≡ custom_bytes custom

custom-read : (packed : Bool) (state : State) (bytes : List ℕ) (custom : Option (List ℕ)) → custom_in packed state bytes ≡ Ok custom
    → CustomRead packed state custom bytes
unfolding custom_in
custom-read false state bytes custom e =
    let end = whole_ok 29 None custom bytes e in
    rw (← end.0) (record { told = refl; may = tt; spelled = λ h. end.1 })
custom-read true state bytes custom e =
    let P = CustomRead true state custom bytes in
    peeled P (passing (size_may state) (Bad 29) (number_at w16 bytes)) _ custom e (λ size e1 m1.
    peeled P (cut_at size.0 size.1) _ custom m1 (λ field e2 m2.
    let is = passed (size_may state) (Bad 29) (number_at w16 bytes) size e1 in
    let end = whole_ok (31 + size.0) (Some field.0) custom field.1 m2 in
    let long = cut_long size.0 size.1 field.0 field.1 e2 in
    rw (← end.0)
    (record {
      told = refl;
      may = is-custom state field.0 size.0 long is.1;
      spelled = λ h.
          let s1 = (u16_stands bytes size.0 size.1 h is.0).stands in
          let s2 = cut_stands size.0 size.1 field.0 field.1 s1.left e2 in
          (both s1 s2.stands).parts ∙ (rw (end.1, long) (append-nil (to_be_bytes w16 size.0 ++ field.0)));
    })))

-- an event that was read
record NoteRead (note : Note) (bytes : List ℕ) : Type 0 where
  rules : IsNote note
  spelled : AreBytes bytes → bytes ≡ note_bytes note

added-read : (packed : Bool) (bytes : List ℕ) (note : Note) → added_in packed bytes ≡ Ok note
    → NoteRead note (version_of packed ∷ 0 ∷ bytes)
unfolding added_in note_bytes entry_bytes span_bytes event_bytes
added-read packed bytes note e =
    let P = NoteRead note (version_of packed ∷ 0 ∷ bytes) in
    peeled P (id_at bytes) _ note e (λ id e1 m1.
    peeled P (front_at id.1) _ note m1 (λ front e2 m2.
    peeled P (passing (λ n. nat_lt 0 n && nat_le n 67108864) (Bad 59) (number_at w32 front.1)) _ note m2 (λ count e3 m3.
    peeled P (pairs_at front.0.start front.0.end count.0 63 None count.1) _ note m3 (λ pairs e4 m4.
    peeled P (packed_in packed (63 + 12 * count.0) pairs.1) _ note m4 (λ end e5 m5.
    let same = ok_same _ (Add (entry_of packed id.0 front.0 pairs.0)) note refl m5 in
    let early = front-read id.1 front.0 front.1 e2 in
    let number = passed (λ n. nat_lt 0 n && nat_le n 67108864) (Bad 59) (number_at w32 front.1) count e3 in
    let some : (0 < count.0) × (count.0 ≤ 67108864) = (grind (arith, number.1), grind (arith, number.1)) in
    let map = pairs-read front.0.start front.0.end count.0 63 None count.1 pairs.0 pairs.1 e4 in
    rw (← same)
    (record {
      rules = record {
        started = refl;
        ordered = early.ordered;
        bounded = early.bounded;
        map = behind-map front.0.start front.0.end count.0 pairs.0 early.bounded some.0 some.1 map.long (map.behind early.ordered);
        bare = refl;
      };
      spelled = λ h.
          let s1 = id_stands bytes id.0 id.1 (λ k d l. h (suc (suc k)) d (omega (arith, l))) e1 in
          let s2 = early.stands s1.stands.left in
          let s3 = (u32_stands front.1 count.0 count.1 s2.2.left number.0).stands in
          let s4 = map.stands s3.left in
          let all = both (both s1.stands s2.1) (both s2.2 (both s3 s4)) in
          let tail = packed-read packed (63 + 12 * count.0) pairs.1 end e5 s4.left in
          ap (λ (t : List ℕ). version_of packed ∷ 0 ∷ t) (all.parts ∙ (rw (tail, map.long) refl));
    }))))))

-- a state that an update reported
later-by : (a b c : Bool) (code : ℕ) (s : State) → (code == 1) ≡ a → (code == 2) ≡ b → (code == 3) ≡ c
    → cond {A = Result State NoteRefusal} a (Ok CopyFinished) (cond b (Ok DeleteStarted) (cond c (Ok DeleteFinished) (Err BadState))) ≡ Ok s
    → (code ≡ state_code s) × (s ≢ CopyStarted)
later-by true b c code s is1 is2 is3 e =
    let same : CopyFinished ≡ s = ok_same _ CopyFinished s refl e in
    rw (← same) (eqb-true code 1 is1, λ wrong. absurd (cc))
later-by false true c code s is1 is2 is3 e =
    let same : DeleteStarted ≡ s = ok_same _ DeleteStarted s refl e in
    rw (← same) (eqb-true code 2 is2, λ wrong. absurd (cc))
later-by false false true code s is1 is2 is3 e =
    let same : DeleteFinished ≡ s = ok_same _ DeleteFinished s refl e in
    rw (← same) (eqb-true code 3 is3, λ wrong. absurd (cc))
later-by false false false code s is1 is2 is3 e = absurd (cc)

-- an update's fields, and what follows them
regrouped : (a b c : List ℕ) (code : ℕ) (rest : List ℕ) → (a ++ (b ++ (c ++ code ∷ []))) ++ rest ≡ a ++ (b ++ (c ++ code ∷ rest))
regrouped a b c code rest =
    append_assoc a (b ++ (c ++ code ∷ [])) rest
    ∙ ap (λ (t : List ℕ). a ++ t) (append_assoc b (c ++ code ∷ []) rest ∙ ap (λ (t : List ℕ). b ++ t) (append_assoc c (code ∷ []) rest))

updated-read : (packed : Bool) (bytes : List ℕ) (note : Note) → updated_in packed bytes ≡ Ok note
    → NoteRead note (version_of packed ∷ 1 ∷ bytes)
unfolding updated_in note_bytes update_bytes
updated-read packed bytes note e =
    let P = NoteRead note (version_of packed ∷ 1 ∷ bytes) in
    peeled P (id_at bytes) _ note e (λ id e1 m1.
    peeled P (number_at w16 id.1) _ note m1 (λ broker e2 m2.
    peeled P (ts_at broker.1) _ note m2 (λ event_ts e3 m3.
    peeled P (byte_at event_ts.1) _ note m3 (λ code e4 m4.
    peeled P (later_state code.0) _ note m4 (λ state e5 m5.
    peeled P (custom_in packed state code.1) _ note m5 (λ custom e6 m6.
    let same = ok_same _ (Update id.0 (record { 0 = broker.0 }) event_ts.0 state custom) note refl m6 in
    let late = custom-read packed state code.1 custom e6 in
    let told = later-by (code.0 == 1) (code.0 == 2) (code.0 == 3) code.0 state refl refl refl e5 in
    rw (← same, late.told)
    (record {
      rules = (told.1, late.may);
      spelled = λ h.
          let s1 = id_stands bytes id.0 id.1 (λ k d l. h (suc (suc k)) d (omega (arith, l))) e1 in
          let s2 = (u16_stands id.1 broker.0 broker.1 s1.stands.left e2).stands in
          let s3 = ts_stands broker.1 event_ts.0 event_ts.1 s2.left e3 in
          let s4 = byte_stands event_ts.1 code.0 code.1 s3.left e4 in
          let all = both s1.stands (both s2 (both s3 s4)) in
          let tail = late.spelled s4.left in
          ap (λ (t : List ℕ). version_of (is_some custom) ∷ 1 ∷ t)
          (all.parts ∙ (rw (tail, told.0) (regrouped id.0.0 (to_be_bytes w16 broker.0) (ts_bytes event_ts.0) (state_code state) (custom_bytes custom))));
    })))))))

kind-by : (packed a b : Bool) (kind : ℕ) (bytes : List ℕ) (note : Note) → (kind == 0) ≡ a → (kind == 1) ≡ b
    → cond {A = Result Note NoteRefusal} a (added_in packed bytes) (cond b (updated_in packed bytes) (Err (Bad 1))) ≡ Ok note
    → NoteRead note (version_of packed ∷ kind ∷ bytes)
kind-by packed true b kind bytes note is1 is2 e = rw (eqb-true kind 0 is1) (added-read packed bytes note e)
kind-by packed false true kind bytes note is1 is2 e = rw (eqb-true kind 1 is2) (updated-read packed bytes note e)
kind-by packed false false kind bytes note is1 is2 e = absurd (cc)

kind-read : (packed : Bool) (bytes : List ℕ) (note : Note) → kind_in packed bytes ≡ Ok note → NoteRead note (version_of packed ∷ bytes)
kind-read packed [] note e = absurd (cc)
kind-read packed (kind ∷ bytes) note e = kind-by packed (kind == 0) (kind == 1) kind bytes note refl refl e

version-is : (b : Bool) (version : ℕ) → nat_le version 1 ≡ true → (version == 1) ≡ b → version ≡ version_of b
version-is true version low is = eqb-true version 1 is
version-is false version low is = grind (arith, low, is)

version-by : (a b : Bool) (version : ℕ) (bytes : List ℕ) (note : Note) → nat_le version 1 ≡ a → (version == 1) ≡ b
    → cond {A = Result Note NoteRefusal} a (kind_in b bytes) (Err BadVersion) ≡ Ok note → NoteRead note (version ∷ bytes)
version-by true b version bytes note low is e = rw (version-is b version low is) (kind-read b bytes note e)
version-by false b version bytes note low is e = absurd (cc)

note-read : (bytes : List ℕ) (note : Note) → note_in bytes ≡ Ok note → NoteRead note bytes
unfolding note_in
note-read [] note e = absurd (cc)
note-read (version ∷ bytes) note e = version-by (nat_le version 1) (version == 1) version bytes note refl refl e

-- what was read to be added keeps the rules, whatever memory there was
pub added_rules : (packed : Bool) (bytes : List ℕ) (r : Result Note NoteRefusal) → Answers (λ (note : Note). note) r (added_in packed bytes)
    → IfOk r IsNote
added_rules packed bytes (Ok note) h = (added-read packed bytes note h).rules
added_rules packed bytes (Err why) h = tt

-- and so does what was read to update
pub updated_rules : (packed : Bool) (bytes : List ℕ) (r : Result Note NoteRefusal) → Answers (λ (note : Note). note) r (updated_in packed bytes)
    → IfOk r IsNote
updated_rules packed bytes (Ok note) h = (updated-read packed bytes note h).rules
updated_rules packed bytes (Err why) h = tt

-- what was read is in the bytes as it is spelled
pub one_spelling : (bytes : List ℕ) (note : Note) → All (λ b. b < 256) bytes → note_in bytes ≡ Ok note → bytes ≡ note_bytes note
one_spelling bytes note h e = (note-read bytes note e).spelled h
