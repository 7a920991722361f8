-- A number in 20 digits.
use Rattle.std.proofs.Common.{◌≡◌, ◌∙◌, sym, ap, subst, refl, ℕ, zero, suc, ◌-◌, ◌<◌, ◌^◌, List, [], ◌∷◌, ◌++◌, true, length, replicate, inl, inr, arith, length-append}
use Rattle.std.specs.Prelude.{decimal}
use Rattle.std.specs.Char.{is_ascii_digit}
use Rattle.std.specs.Str.{all_ascii_digits}
use Rattle.std.proofs.lemmas.Bool.{and_parts, cases_eq, ne_eqb}
use Rattle.std.proofs.lemmas.List.{length-replicate}
use Rattle.std.proofs.lemmas.Fmt.{digits_decimal, digits_value-decimal, length-decimal-le}
use Rattle.tier_base.specs.Number.{is_shortest, value_of}
use Rattle.tier_base.proofs.Digits.{own, decimal-value}
use Rattle.trace_text.specs.Names.{padded}

zeros-digits : (k : ℕ) (ds : List ℕ) → all_ascii_digits ds ≡ true → all_ascii_digits (replicate k 48 ++ ds) ≡ true
zeros-digits zero ds h = h
zeros-digits (suc k) ds h = zeros-digits k ds h

zeros-value : (k : ℕ) (ds : List ℕ) → value_of 0 (replicate k 48 ++ ds) ≡ value_of 0 ds
zeros-value zero ds = refl
zeros-value (suc k) ds = zeros-value k ds

pub padded-length : (n : ℕ) → n < 2 ^ 64 → length (padded n) ≡ 20
unfolding padded
padded-length n small =
    omega (arith, length-append (replicate (20 - length (decimal n)) 48) (decimal n), length-replicate {A = ℕ} (20 - length (decimal n)) 48, length-decimal-le 20 n (omega arith) (omega arith) small)

pub padded-digits : (n : ℕ) → n < 2 ^ 64 → all_ascii_digits (padded n) ≡ true
unfolding padded
padded-digits n small = zeros-digits (20 - length (decimal n)) (decimal n) (digits_decimal own n small)

pub padded-number : (n : ℕ) → n < 2 ^ 64 → value_of 0 (padded n) ≡ n
unfolding padded
padded-number n small = zeros-value (20 - length (decimal n)) (decimal n) ∙ digits_value-decimal own n small

-- zeros, and then the number
record HasZeros (ds : List ℕ) : Type 0 where
  zeros : ℕ
  parts : ds ≡ replicate zeros 48 ++ decimal (value_of 0 ds)

zeros-more : (e : ℕ) (ds : List ℕ) → HasZeros (e ∷ ds) → HasZeros (48 ∷ e ∷ ds)
zeros-more e ds later = record { zeros = suc later.zeros; parts = ap (λ (t : List ℕ). 48 ∷ t) later.parts }

zeros-front : (ds : List ℕ) → all_ascii_digits ds ≡ true → 0 < length ds → value_of 0 ds < 2 ^ 64 → HasZeros ds
zeros-front [] all some small = absurd (omega (arith, some))
zeros-front (d ∷ []) all some small = record { zeros = 0; parts = sym (decimal-value (d ∷ []) all refl small) }
zeros-front (d ∷ e ∷ ds) all some small =
    elim (cases_eq d 48) [
      | inl zero_first ↦
          let parts = and_parts (is_ascii_digit d) (all_ascii_digits (e ∷ ds)) all in
          let same : value_of 0 (d ∷ e ∷ ds) ≡ value_of 0 (e ∷ ds) = rw zero_first refl in
          let later = zeros-front (e ∷ ds) parts.1 (omega arith) (omega (arith, same, small)) in
          subst (λ (x : ℕ). HasZeros (x ∷ e ∷ ds)) (sym zero_first) (zeros-more e ds later)
      | inr other ↦
          let short : is_shortest (d ∷ e ∷ ds) ≡ true = rw (ne_eqb d 48 other) refl in
          record { zeros = 0; parts = sym (decimal-value (d ∷ e ∷ ds) all short small) }
    ]

-- 20 digits are the text of their number
pub padded-value : (ds : List ℕ) → all_ascii_digits ds ≡ true → length ds ≡ 20 → value_of 0 ds < 2 ^ 64 → padded (value_of 0 ds) ≡ ds
unfolding padded
padded-value ds all long small =
    let front = zeros-front ds all (omega (arith, long)) small in
    let size = ap length front.parts in
    let count : 20 - length (decimal (value_of 0 ds)) ≡ front.zeros
    = omega (arith, size, long, length-append (replicate front.zeros 48) (decimal (value_of 0 ds)), length-replicate {A = ℕ} front.zeros 48) in
    rw count (sym front.parts)
