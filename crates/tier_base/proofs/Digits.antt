-- A number has one spelling, and a front has one number.
use Rattle.std.proofs.Common.{rules, zero, suc, ◌≡◌, ◌∙◌, sym, ap, refl, ℕ, ◌+◌, ◌-◌, ◌*◌, ◌^◌, ◌<◌, min, List, [], ◌∷◌, ◌++◌, Bool, true, false, cond, length, take, drop, get_or, arith, add-one}
use Rattle.std.specs.Prelude.{◌==◌, not}
use Rattle.std.specs.Fmt.{decimal}
use Rattle.std.specs.Char.{is_ascii_digit}
use Rattle.std.specs.Str.{all_ascii_digits}
use Rattle.std.proofs.lemmas.List.{take_at, drop_at, take-append-drop}
use Rattle.std.proofs.lemmas.Bool.{and_parts, ne_eqb}
use Rattle.std.proofs.lemmas.Fmt.{digits_decimal, decimal_nonempty, first_decimal, decimal_digit, decimal-digits_value, decimal_injective}
use Rattle.std.proofs.lemmas.Str.Parse.{IsNumeralModel, numerals_by_fold, tells_all_ascii_digits}
use Rattle.tier_base.specs.Number.{digits_len, is_shortest, value_of, number_text}

-- numbers are read from the left
pub own : IsNumeralModel (λ ds. all_ascii_digits ds ≡ true) (value_of 0)
own = numerals_by_fold _ tells_all_ascii_digits value_of (search rules)

-- digits, and a byte that is none
pub digits_len-front : (ds : List ℕ) (end : ℕ) (rest : List ℕ) → all_ascii_digits ds ≡ true → is_ascii_digit end ≡ false → digits_len (ds ++ end ∷ rest) ≡ length ds
digits_len-front [] end rest all other = rw other refl
digits_len-front (d ∷ ds) end rest all other =
    let parts = and_parts (is_ascii_digit d) (all_ascii_digits ds) all in
    rw (parts.0, digits_len-front ds end rest parts.1 other) (omega arith)

all-cases : (b : Bool) (d : ℕ) (ds : List ℕ) (n : ℕ) → is_ascii_digit d ≡ b → all_ascii_digits (take n ds) ≡ true → all_ascii_digits (take (cond b (n + 1) 0) (d ∷ ds)) ≡ true
all-cases true d ds n e h = rw (add-one, e) h
all-cases false d ds n e h = refl

-- what is counted are digits
pub digits-all : (bs : List ℕ) → all_ascii_digits (take (digits_len bs) bs) ≡ true
digits-all [] = refl
digits-all (b ∷ bs) = all-cases (is_ascii_digit b) b bs (digits_len bs) refl (digits-all bs)

-- a number has no leading zero
shortest-cases : (ds : List ℕ) → 0 < length ds → 48 < get_or ds 0 0 → is_shortest ds ≡ true
shortest-cases [] some first = absurd (omega (arith, some))
shortest-cases (d ∷ []) some first = refl
shortest-cases (d ∷ e ∷ ds) some first = rw (ne_eqb d 48 (λ h. omega (arith, first, h))) refl

pub shortest-decimal : (n : ℕ) → n < 2 ^ 64 → is_shortest (decimal n) ≡ true
shortest-decimal zero h = rw (decimal_digit 0 (omega arith)) refl
shortest-decimal (suc n) h = shortest-cases (decimal (suc n)) (decimal_nonempty (suc n) h) (first_decimal (suc n) (omega arith) h)

zero-first : (ds : List ℕ) → is_shortest ds ≡ true → get_or ds 0 0 ≡ 48 → length ds ≡ 1
zero-first [] h z = absurd (cc)
zero-first (d ∷ []) h z = refl
zero-first (d ∷ e ∷ ds) h z = absurd (let no : not (d == 48) ≡ false = rw z refl in cc)

some-shortest : (ds : List ℕ) → is_shortest ds ≡ true → 0 < length ds
some-shortest [] h = absurd (cc)
some-shortest (d ∷ ds) h = omega arith

-- the number of digits without a leading zero is spelled by them
pub decimal-value : (ds : List ℕ) → all_ascii_digits ds ≡ true → is_shortest ds ≡ true → value_of 0 ds < 2 ^ 64 → decimal (value_of 0 ds) ≡ ds
decimal-value ds all short small = decimal-digits_value own ds all (some-shortest ds short) (zero-first ds short) small

-- a number at the front: its digits, and what follows them
pub record IsFound (n end : ℕ) (digits behind rest : List ℕ) : Type 0 where
  pub number : digits ≡ decimal n
  pub after : behind ≡ end ∷ rest

pub number-found : (n end k : ℕ) (rest bytes digits behind : List ℕ) → n < 2 ^ 64 → is_ascii_digit end ≡ false → k ≡ digits_len bytes → digits ≡ take k bytes → behind ≡ drop k bytes → bytes ≡ number_text end n rest → IsFound n end digits behind rest
number-found n end k rest bytes digits behind small other counted front back e =
    let all = digits_decimal own n small in
    let long : length (decimal n) ≡ k = sym (digits_len-front (decimal n) end rest all other) ∙ (ap digits_len (sym e) ∙ sym counted) in
    record { number = front ∙ (ap (take k) e ∙ take_at (decimal n) (end ∷ rest) k long); after = back ∙ (ap (drop k) e ∙ drop_at (decimal n) (end ∷ rest) k long) }

-- a front has one number
pub number-unique : (n m end : ℕ) (r s : List ℕ) → n < 2 ^ 64 → m < 2 ^ 64 → is_ascii_digit end ≡ false → number_text end n r ≡ number_text end m s → (n ≡ m) × (r ≡ s)
number-unique n m end r s small small' other e =
    let bytes = number_text end n r in
    let k = digits_len bytes in
    let one = number-found n end k r bytes (take k bytes) (drop k bytes) small other refl refl refl refl in
    let two = number-found m end k s bytes (take k bytes) (drop k bytes) small' other refl refl refl e in
    (decimal_injective n m small small' (sym one.number ∙ two.number), (let same : ◌≡◌ {A = List ℕ} (end ∷ r) (end ∷ s) = sym one.after ∙ two.after in cc))

-- what is read is what is there
pub number-read : (number k end first : ℕ) (bytes digits behind rest : List ℕ) → k ≡ digits_len bytes → digits ≡ take k bytes → behind ≡ drop k bytes → behind ≡ first ∷ rest → first ≡ end → is_shortest digits ≡ true
    → number ≡ min (value_of 0 digits) (2 ^ 64 - 1) → number < 2 ^ 64 - 1 → bytes ≡ number_text end number rest
number-read number k end first bytes digits behind rest counted front back after is short value small =
    let same : value_of 0 digits ≡ number = omega (arith, value, small) in
    let all : all_ascii_digits digits ≡ true = rw (front, counted) (digits-all bytes) in
    let spelled : decimal number ≡ digits = rw (← same) (decimal-value digits all short (omega (arith, same, small))) in
    sym (take-append-drop k bytes) ∙ rw (← front, ← back, after, is, spelled) refl

step-same : (n k m : ℕ) → min (10 * min n m + k) m ≡ min (10 * n + k) m
step-same n k m = omega arith

value_of-capped : (ds : List ℕ) (n m : ℕ) → min (value_of (min n m) ds) m ≡ min (value_of n ds) m
value_of-capped [] n m = omega arith
value_of-capped (d ∷ ds) n m =
    sym (value_of-capped ds (10 * min n m + (d - 48)) m)
    ∙ (ap (λ (x : ℕ). min (value_of x ds) m) (step-same n (d - 48) m) ∙ value_of-capped ds (10 * n + (d - 48)) m)

-- one digit more, by two steps that stop at the greatest number of the type
pub value_of-step : (ds : List ℕ) (n m : ℕ) (d x : ℕ) → x ≡ min (min (n * 10) m + (d - 48)) m → min (value_of x ds) m ≡ min (value_of n (d ∷ ds)) m
value_of-step ds n m d x h =
    let e : x ≡ min (10 * n + (d - 48)) m = omega (arith, h) in
    ap (λ (y : ℕ). min (value_of y ds) m) e ∙ value_of-capped ds (10 * n + (d - 48)) m
