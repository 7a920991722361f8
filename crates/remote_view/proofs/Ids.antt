-- Ids are distinguished by their bytes, and by their numbers.
use Rattle.std.proofs.Common.{zero, suc, ◌≡◌, ◌≢◌, ◌∙◌, refl, sym, ap, ℕ, ◌+◌, ◌*◌, ◌<◌, ◌≤◌, List, get_or, arith, true, false, inl, inr}
use Rattle.std.specs.Str.{bytes_eq}
use Rattle.std.specs.Int.{w128, from_be_bytes}
use Rattle.std.proofs.lemmas.Bool.{false_from_ne_true, cases_lt}
use Rattle.std.proofs.lemmas.List.{ext_get_or}
use Rattle.std.proofs.lemmas.Slice.Eq.{bytes_eq-Decides}
use Rattle.tier_base.specs.declared.names.SegmentId.{SegmentId}
use Rattle.tier_base.specs.Key.{IsId}
use Rattle.remote_view.specs.Lookup.{id_number}

pub same_id : (a b : SegmentId) → bytes_eq a.0 b.0 ≡ true → a ≡ b
same_id a b h = ap (λ (bytes : List ℕ). (let id : SegmentId = record { 0 = bytes } in id)) ((bytes_eq-Decides a.0 b.0).0 h)

pub bytes_self : (bytes : List ℕ) → bytes_eq bytes bytes ≡ true
bytes_self bytes = (bytes_eq-Decides bytes bytes).1 refl

-- ids that aren't one have different bytes
pub other_bytes : (a b : SegmentId) → a ≢ b → bytes_eq a.0 b.0 ≡ false
other_bytes a b ne = false_from_ne_true (bytes_eq a.0 b.0) (λ same. ne (same_id a b same))

-- the number of the first digits
abbrev worth : (ℕ → ℕ) → ℕ → ℕ
worth digit zero = digit 0
worth digit (suc n) = 256 * worth digit n + digit (suc n)

-- digits are read off their number
same_digits : (f g : ℕ → ℕ) (n : ℕ) → ((i : ℕ) → i ≤ n → f i < 256) → ((i : ℕ) → i ≤ n → g i < 256) → worth f n ≡ worth g n → (i : ℕ) → i ≤ n → f i ≡ g i
same_digits f g zero low low' same i within = let first : i ≡ 0 = omega (arith, within) in rw first same
same_digits f g (suc n) low low' same i within =
    let x = low (suc n) (omega arith) in
    let y = low' (suc n) (omega arith) in
    let front : worth f n ≡ worth g n = omega (arith, same, x, y) in
    let last : f (suc n) ≡ g (suc n) = omega (arith, same, x, y) in
    elim (cases_lt n i) [
      | inl above ↦ (let here : i ≡ suc n = omega (arith, above, within) in rw here last)
      | inr below ↦ same_digits f g n (λ k low_k. low k (omega (arith, low_k))) (λ k low_k. low' k (omega (arith, low_k))) front i below
    ]

as_digits : (bytes : List ℕ) → from_be_bytes w128 bytes ≡ worth (λ i. get_or bytes i 0) 15
as_digits bytes = omega arith

-- one number, one id
pub same_number : (a b : SegmentId) → IsId a → IsId b → id_number a ≡ id_number b → a ≡ b
same_number a b is is' same =
    ap (λ (bytes : List ℕ). (let id : SegmentId = record { 0 = bytes } in id)) (ext_get_or 0 a.0 b.0 (is.size ∙ sym is'.size)
    (λ i within. same_digits (λ i. get_or a.0 i 0) (λ i. get_or b.0 i 0) 15 (λ k low. is.bytes k 0 (omega (arith, is.size, low))) (λ k low. is'.bytes k 0 (omega (arith, is'.size, low)))
    (sym (as_digits a.0) ∙ (same ∙ as_digits b.0)) i (omega (arith, is.size, within))))
