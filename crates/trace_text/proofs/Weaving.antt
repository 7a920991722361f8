-- Bytes as digits, lane by lane, and two vectors of digits woven into one text.
use Rattle.std.proofs.Common.{◌≡◌, ◌∙◌, sym, ap, subst, refl, ℕ, zero, suc, ◌+◌, ◌/◌, ◌%◌, ◌<◌, ◌==◌, ◌&&◌, ltb, Bool, true, List, [], ◌∷◌, ◌++◌, map, length, slice_index, append_assoc, arith, inl, inr, w8, Fits}
use Rattle.std.specs.Prelude.{bit_and, replicate}
use Rattle.std.proofs.lemmas.Bool.{and_parts, eqb-true, cases_lt}
use Rattle.std.proofs.lemmas.Nat.{and_mask}
use Rattle.std.proofs.lemmas.Simd.{pick_l_whole}
use lib.Lanes.{Each1, zip2, pick_l, sel_l}
use Rattle.hex.specs.Hex.{lower_digits, encode_with, encode_lower}
use Rattle.trace_text.specs.Letters.{letter}

-- the lower halves, by a mask
pub low_halves : (xs : List ℕ) → map (λ b. bit_and b 15) xs ≡ map (λ b. b % 16) xs
low_halves [] = refl
low_halves (x ∷ xs) = rw (and_mask x 4, low_halves xs) refl

-- a choice for each number, added to it
pub chosen : (n : ℕ) (xs : List ℕ) → length xs ≡ n
    → zip2 (λ a b. (a + b) % 256) xs (sel_l (zip2 ltb (replicate n 9) xs) (replicate n 87) (replicate n 48)) ≡ map letter xs
chosen zero [] long = refl
chosen zero (x ∷ xs) long = absurd (omega (arith, long))
chosen (suc n) [] long = absurd (omega (arith, long))
chosen (suc n) (x ∷ xs) long = ap (λ (k : List ℕ). letter x ∷ k) (chosen n xs (omega (arith, long)))

-- the test of the digits of the first n numbers
abbrev are_letters : ℕ → Bool
are_letters zero = true
are_letters (suc n) = (letter n == slice_index lower_digits n) && are_letters n

letter_below : (n k : ℕ) → are_letters n ≡ true → k < n → letter k ≡ slice_index lower_digits k
letter_below zero k h lt = absurd (omega arith)
letter_below (suc n) k h lt =
    let parts = and_parts (letter n == slice_index lower_digits n) (are_letters n) h in
    elim (cases_lt k n) [
      | inl below ↦ letter_below n k parts.1 below
      | inr top ↦
          let e : k ≡ n = omega (arith, lt, top) in
          rw e (eqb-true _ _ parts.0)
    ]

all_letters : are_letters 16 ≡ true
all_letters = refl

letter_is : (k : ℕ) → k < 16 → letter k ≡ slice_index lower_digits k
letter_is k lt = letter_below 16 k all_letters lt

-- the digits of the higher halves of bytes, and of the lower ones
pub upper_letters : (xs : List ℕ) → Each1 (Fits w8) xs → map letter (map (λ b. b / 16) xs) ≡ map (λ b. slice_index lower_digits (b / 16)) xs
upper_letters [] small = refl
upper_letters (x ∷ xs) small =
    let lt : x < 256 = small.0.fits in
    rw (letter_is (x / 16) (omega (arith, lt)), upper_letters xs small.1) refl

pub lower_letters : (xs : List ℕ) → map letter (map (λ b. b % 16) xs) ≡ map (λ b. slice_index lower_digits (b % 16)) xs
lower_letters [] = refl
lower_letters (x ∷ xs) = rw (letter_is (x % 16) (omega arith), lower_letters xs) refl

-- the places of lanes in turn: one of the first vector, one of the second
abbrev pub turns : ℕ → ℕ → List ℕ
turns from zero = []
turns from (suc n) = from ∷ (64 + from) ∷ turns (suc from) n

-- two vectors in turn
abbrev pub weave : List ℕ → List ℕ → List ℕ
weave xs ys = pick_l 0 (xs ++ ys) (turns 0 32) ++ pick_l 0 (xs ++ ys) (turns 32 32)

-- the digits of higher halves and of lower ones in turn are the text
abbrev AreWoven : List ℕ → Type 0
AreWoven xs = weave (map (λ b. slice_index lower_digits (b / 16)) xs) (map (λ b. slice_index lower_digits (b % 16)) xs) ≡ encode_lower xs

pub woven : (xs : List ℕ) → length xs ≡ 64 → AreWoven xs
unfolding encode_with
woven xs long = subst AreWoven (pick_l_whole 0 xs 64 long) refl

-- digits of the higher halves of bytes and of the lower ones
pub digits_are : (upper lower xs : List ℕ) → length xs ≡ 64 → Each1 (Fits w8) xs → upper ≡ map letter (map (λ b. b / 16) xs) → lower ≡ map letter (map (λ b. b % 16) xs)
    → weave upper lower ≡ encode_lower xs
digits_are upper lower xs long small above below =
    ap (λ (u : List ℕ). weave u lower) (above ∙ upper_letters xs small)
    ∙ (ap (λ (l : List ℕ). weave (map (λ b. slice_index lower_digits (b / 16)) xs) l) (below ∙ lower_letters xs) ∙ woven xs long)

-- one list of bytes after another
encode_append : (xs ys : List ℕ) → encode_lower (xs ++ ys) ≡ encode_lower xs ++ encode_lower ys
unfolding encode_with
encode_append [] ys = refl
encode_append (x ∷ xs) ys = rw (encode_append xs ys) refl

-- more bytes in a text, and those after them
pub more : (text grown front back rest whole : List ℕ)
    → grown ≡ text ++ encode_lower front
    → front ++ back ≡ rest
    → text ++ encode_lower rest ≡ whole
    → grown ++ encode_lower back ≡ whole
more text grown front back rest whole are parts so_far =
    ap (λ (xs : List ℕ). xs ++ encode_lower back) are
    ∙ append_assoc text (encode_lower front) (encode_lower back)
    ∙ ap (λ (xs : List ℕ). text ++ xs) (sym (encode_append front back) ∙ ap encode_lower parts)
    ∙ so_far
