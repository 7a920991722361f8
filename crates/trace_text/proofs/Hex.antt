-- A run's bytes have one text, and it is read back.
use Rattle.std.proofs.Common.{◌≡◌, ◌∙◌, sym, ap, refl, ℕ, zero, suc, ◌+◌, ◌-◌, ◌*◌, ◌/◌, ◌%◌, ◌<◌, ◌≤◌, List, [], ◌∷◌, Bool, true, false, cond, Some, Result, Ok, Err, length, slice_index, All, inl, inr, ◌⊎◌, arith}
use Rattle.std.specs.Prelude.{nat_le, ◌==◌, ◌&&◌, ◌||◌}
use Rattle.std.specs.List.{list_all}
use Rattle.std.proofs.lemmas.Bool.{and_parts, eqb-true, leb-true, cases_lt}
use Rattle.std.proofs.lemmas.Bool.Decides.{nat_tests}
use Rattle.std.proofs.lemmas.List.Elements.{All-cons, All-nil, All-head, All-tail}
use Rattle.hex.specs.declared.error.FromHexError.{FromHexError}
use Rattle.hex.specs.Hex.{IsBytes, decode_of, decode_pairs, hex_digit_value, digit_or_error, value_at, pair_value, encode_lower, encode_with, lower_digits, ◌>>=◌}
use Rattle.hex.proofs.HexLemmas.{decode_of-encode_lower, decode_of-ok, decode_of-even, length-encode_with}
use Rattle.trace_text.specs.Entries.{AreRunBytes}
use Rattle.trace_text.specs.Fields.{is_lower_digit, decoded, bytes_in}
use Rattle.trace_text.proofs.Readings.{if-some}
use Rattle.trace_text.proofs.Spelled.{Spells}

-- the digit at a place of the table is this one
abbrev digit_of : ℕ → ℕ
digit_of d = cond (nat_le d 9) (48 + d) (87 + d)

-- the test of the first n places
abbrev all_digits : ℕ → Bool
all_digits zero = true
all_digits (suc n) = (slice_index lower_digits n == digit_of n) && all_digits n

all_digits-at : (n k : ℕ) → all_digits n ≡ true → k < n → slice_index lower_digits k ≡ digit_of k
all_digits-at zero k h lt = absurd (omega arith)
all_digits-at (suc n) k h lt =
    let parts = and_parts (slice_index lower_digits n == digit_of n) (all_digits n) h in
    elim (cases_lt k n) [
      | inl below ↦ all_digits-at n k parts.1 below
      | inr top ↦
          let e : k ≡ n = omega arith in
          rw e (eqb-true (slice_index lower_digits n) (digit_of n) parts.0)
    ]

digit-at : (d : ℕ) → d < 16 → slice_index lower_digits d ≡ digit_of d
digit-at d lt = all_digits-at 16 d refl lt

lower-digit : (d : ℕ) → d < 16 → is_lower_digit (slice_index lower_digits d) ≡ true
lower-digit d lt = rw (digit-at d lt) (grind (arith, nat_tests))

-- a digit of the text, and its value
record IsDigit (c : ℕ) : Type 0 where
  value : ℕ
  small : value < 16
  read : hex_digit_value c ≡ Some value
  same : slice_index lower_digits value ≡ c

digit-low : (c : ℕ) → 48 ≤ c → c ≤ 57 → IsDigit c
digit-low c low high =
    let small : c - 48 < 16 = omega arith in
    let test : nat_le (c - 48) 9 ≡ true = grind (arith, nat_tests) in
    record {
      value = c - 48;
      small = small;
      read = grind (arith, nat_tests);
      same = digit-at (c - 48) small ∙ rw test (omega arith);
    }

digit-high : (c : ℕ) → 97 ≤ c → c ≤ 102 → IsDigit c
digit-high c low high =
    let small : c - 87 < 16 = omega arith in
    let test : nat_le (c - 87) 9 ≡ false = grind (arith, nat_tests) in
    record {
      value = c - 87;
      small = small;
      read = grind (arith, nat_tests);
      same = digit-at (c - 87) small ∙ rw test (omega arith);
    }

or-parts : (a b : Bool) → (a || b) ≡ true → (a ≡ true) ⊎ (b ≡ true)
or-parts true b h = inl refl
or-parts false b h = inr h

is-digit : (c : ℕ) → is_lower_digit c ≡ true → IsDigit c
is-digit c h =
    elim (or-parts (nat_le 48 c && nat_le c 57) (nat_le 97 c && nat_le c 102) h) [
      | inl low ↦
          let parts = and_parts (nat_le 48 c) (nat_le c 57) low in
          digit-low c (leb-true 48 c parts.0) (leb-true c 57 parts.1)
      | inr high ↦
          let parts = and_parts (nat_le 97 c) (nat_le c 102) high in
          digit-high c (leb-true 97 c parts.0) (leb-true c 102 parts.1)
    ]

-- what an `Ok` of two steps shows
bind-ok : {A B : Type 0} (r : Result A FromHexError) (f : A → Result B FromHexError) (y : B) → (r >>= f) ≡ Ok y → (x : A) × (r ≡ Ok x) × (f x ≡ Ok y)
bind-ok (Ok x) f y h = (x, refl, h)
bind-ok (Err e) f y h = cc h

lower-pairs : (i : ℕ) (text bytes : List ℕ) → list_all is_lower_digit text ≡ true → decode_pairs i text ≡ Ok bytes → encode_with lower_digits bytes ≡ text
unfolding decode_pairs encode_with
lower-pairs i [] bytes lower h =
    let none : [] ≡ bytes = cc h in
    rw (← none) refl
lower-pairs i (a ∷ []) bytes lower h = cc h
lower-pairs i (a ∷ b ∷ rest) bytes lower h =
    let first = and_parts (is_lower_digit a) (list_all is_lower_digit (b ∷ rest)) lower in
    let second = and_parts (is_lower_digit b) (list_all is_lower_digit rest) first.1 in
    let da = is-digit a first.0 in
    let db = is-digit b second.0 in
    let ha : value_at a i ≡ Ok da.value = ap (digit_or_error a i) da.read in
    let hb : value_at b (i + 1) ≡ Ok db.value = ap (digit_or_error b (i + 1)) db.read in
    let pair : pair_value a b i ≡ Ok (da.value * 16 + db.value) = rw (ha, hb) refl in
    let step = bind-ok (pair_value a b i) (λ byte. decode_pairs (i + 2) rest >>= λ later. Ok (byte ∷ later)) bytes h in
    let later = bind-ok (decode_pairs (i + 2) rest) (λ later. Ok (step.0 ∷ later)) bytes step.2 in
    let byte : step.0 ≡ da.value * 16 + db.value = cc (step.1, pair) in
    let whole : step.0 ∷ later.0 ≡ bytes = cc later.2 in
    let upper : step.0 / 16 ≡ da.value = omega (arith, byte, da.small, db.small) in
    let under : step.0 % 16 ≡ db.value = omega (arith, byte, da.small, db.small) in
    let tail = lower-pairs (i + 2) rest later.0 second.1 later.1 in
    rw (← whole, upper, under, da.same, db.same, tail) refl

encode-lower : (bytes : List ℕ) → All (λ b. b < 256) bytes → list_all is_lower_digit (encode_with lower_digits bytes) ≡ true
unfolding encode_with
encode-lower [] h = refl
encode-lower (b ∷ bytes) h =
    let small : b < 256 = All-head (λ c. c < 256) b bytes h in
    rw (lower-digit (b / 16) (omega arith), lower-digit (b % 16) (omega arith), encode-lower bytes (All-tail (λ c. c < 256) b bytes h)) refl

each-byte : (bytes : List ℕ) → All (λ b. b < 256) bytes → IsBytes bytes
each-byte [] h i = omega arith
each-byte (b ∷ bytes) h zero = All-head (λ c. c < 256) b bytes h
each-byte (b ∷ bytes) h (suc i) = each-byte bytes (All-tail (λ c. c < 256) b bytes h) i

byte-each : (bytes : List ℕ) → IsBytes bytes → All (λ b. b < 256) bytes
byte-each [] h = All-nil (λ b. b < 256)
byte-each (b ∷ bytes) h = All-cons (λ c. c < 256) b bytes (h 0) (byte-each bytes (λ i. h (suc i)))

decoded-some : (r : Result (List ℕ) FromHexError) (bytes : List ℕ) → decoded r ≡ Some bytes → r ≡ Ok bytes
decoded-some (Ok x) bytes h = cc h
decoded-some (Err e) bytes h = cc h

bytes-complete : (bytes : List ℕ) → AreRunBytes bytes → bytes_in (encode_lower bytes) ≡ Some bytes
unfolding bytes_in
bytes-complete bytes are =
    let long = length-encode_with lower_digits bytes in
    let some : nat_le 1 (length (encode_lower bytes)) ≡ true = rw long (let most = are.some in grind (arith, nat_tests)) in
    rw (some, encode-lower bytes are.each, decode_of-encode_lower bytes (each-byte bytes are.each)) refl

bytes-sound : (word bytes : List ℕ) → bytes_in word ≡ Some bytes → AreRunBytes bytes × (encode_lower bytes ≡ word)
unfolding bytes_in
bytes-sound word bytes h =
    let tested = if-some (nat_le 1 (length word) && list_all is_lower_digit word) (decoded (decode_of word)) bytes h in
    let form = and_parts (nat_le 1 (length word)) (list_all is_lower_digit word) tested.0 in
    let read : decode_of word ≡ Ok bytes = decoded-some (decode_of word) bytes tested.1 in
    let ok = decode_of-ok word bytes read in
    let some : 1 ≤ length word = leb-true 1 (length word) form.0 in
    let pairs : decode_pairs 0 word ≡ Ok bytes = sym (decode_of-even word ok.0) ∙ read in
    (record { some = omega (arith, some, ok.2); each = byte-each bytes ok.3 }, lower-pairs 0 word bytes form.1 pairs)

pub hex_runs : Spells encode_lower AreRunBytes bytes_in
hex_runs = record { complete = bytes-complete; sound = bytes-sound }

lower-low : (text : List ℕ) → list_all is_lower_digit text ≡ true → All (λ b. 33 ≤ b) text
lower-low [] h = All-nil (λ b. 33 ≤ b)
lower-low (c ∷ text) h =
    let parts = and_parts (is_lower_digit c) (list_all is_lower_digit text) h in
    let low : 33 ≤ c = elim (or-parts (nat_le 48 c && nat_le c 57) (nat_le 97 c && nat_le c 102) parts.0) [
      | inl small ↦ omega (arith, leb-true 48 c (and_parts (nat_le 48 c) (nat_le c 57) small).0)
      | inr great ↦ omega (arith, leb-true 97 c (and_parts (nat_le 97 c) (nat_le c 102) great).0)
    ] in
    All-cons (λ b. 33 ≤ b) c text low (lower-low text parts.1)

-- its characters are above the space
pub hex-low : (bytes : List ℕ) → AreRunBytes bytes → All (λ b. 33 ≤ b) (encode_lower bytes)
hex-low bytes are = lower-low (encode_lower bytes) (encode-lower bytes are.each)
