-- Groups below a place in a number, and those from there on.
use Rattle.std.proofs.Common.{◌≡◌, ◌∙◌, sym, ap, refl, ℕ, suc, ◌+◌, ◌-◌, ◌*◌, ◌%◌, ◌^◌, ◌<◌, ◌≤◌, nat_lt, true, false, List, [], ◌∷◌, length, drop, get_or, Result, Ok, Err, add-one, arith}
use Rattle.std.proofs.lemmas.Bool.{le-ltb, lt-ltb}
use Rattle.std.proofs.lemmas.List.{drop_all}
use Rattle.std.proofs.lemmas.Nat.{pow-add}
use Rattle.std.proofs.Math.Nat.{add-mul, mul_assoc}
use Rattle.std.proofs.Math.Seq.{drop-cons}
use Rattle.batch_prims.specs.declared.refusal.VarRefusal.{VarRefusal}
use Rattle.batch_prims.specs.declared.refusal.VarRefusal.TheVariants.{Short}
use Rattle.batch_prims.specs.Varint.{seen, above_group, groups_at}

-- 64 bits of a number whose lowest i groups are known, and the others were read
abbrev pub under : ℕ → ℕ → ℕ × List ℕ → ℕ × List ℕ
under number i x = ((number + x.0 * 2 ^ (7 * i)) % 2 ^ 64, x.1)

-- the number with the group of a byte at its place
abbrev pub with_group : ℕ → ℕ → ℕ → ℕ
with_group number i b = (number + b % 128 * 2 ^ (7 * i) % 2 ^ 64) % 2 ^ 64

-- the bytes end before the last group
pub ends_short : (most i number : ℕ) (bytes : List ℕ) (r : Result (ℕ × List ℕ) VarRefusal)
    → i < most
    → length bytes ≤ i
    → seen (under number i) (groups_at (most - i) (drop i bytes)) ≡ r
    → Err Short ≡ r
ends_short most i number bytes r more end so_far =
    let left : most - i ≡ suc (most - suc i) = omega arith in
    let none : drop i bytes ≡ [] = drop_all i bytes end in
    rw (left, none) at so_far

-- the byte at i, and those after it
front : (most i b : ℕ) (bytes : List ℕ) → i < most → i < length bytes → get_or bytes i 0 ≡ b
    → groups_at (most - i) (drop i bytes) ≡ groups_at (suc (most - (i + 1))) (b ∷ drop (i + 1) bytes)
front most i b bytes more inside e =
    let left : most - i ≡ suc (most - suc i) = omega arith in
    rw (left, drop-cons bytes i 0 inside, e, add-one) refl

-- the last group
pub ends_last : (most i number b : ℕ) (bytes : List ℕ) (r : Result (ℕ × List ℕ) VarRefusal)
    → i < most
    → i < length bytes
    → get_or bytes i 0 ≡ b
    → b < 128
    → seen (under number i) (groups_at (most - i) (drop i bytes)) ≡ r
    → Ok (with_group number i b, drop (i + 1) bytes) ≡ r
ends_last most i number b bytes r more inside e last so_far =
    let t : nat_lt b 128 ≡ true = lt-ltb b 128 last in
    let whole : b % 128 ≡ b = omega arith in
    let same : (number + b * 2 ^ (7 * i) % 2 ^ 64) % 2 ^ 64 ≡ (number + b * 2 ^ (7 * i)) % 2 ^ 64 = omega arith in
    rw (whole, same) (rw (front most i b bytes more inside e, t) at so_far)

-- a group at its place p, and what was read after it at the place q
at_places : (number g h p q : ℕ) → q ≡ p * 128
    → (number + (g + 128 * h) * p) % 2 ^ 64 ≡ ((number + g * p % 2 ^ 64) % 2 ^ 64 + h * q) % 2 ^ 64
at_places number g h p q e =
    let below : (g + 128 * h) * p ≡ g * p + 128 * h * p = add-mul g (128 * h) p in
    let above : 128 * h * p ≡ 128 * (h * p) = mul_assoc 128 h p in
    let place : h * q ≡ h * p * 128 = ap (λ (x : ℕ). h * x) e ∙ sym (mul_assoc h p 128) in
    omega arith

-- one group more
under_more : (number i b : ℕ) (r : Result (ℕ × List ℕ) VarRefusal)
    → seen (under number i) (seen (above_group b) r) ≡ seen (under (with_group number i b) (i + 1)) r
under_more number i b (Err e) = refl
under_more number i b (Ok x) =
    let next : 2 ^ (7 * (i + 1)) ≡ 2 ^ (7 * i) * 128 = (let k : 7 * (i + 1) ≡ 7 * i + 7 = omega arith in rw k (pow-add 2 (7 * i) 7)) in
    ap (λ (n : ℕ). Ok (n, x.1)) (at_places number (b % 128) x.0 (2 ^ (7 * i)) (2 ^ (7 * (i + 1))) next)

-- a group that is not the last
pub goes_on : (most i number b : ℕ) (bytes : List ℕ) (r : Result (ℕ × List ℕ) VarRefusal)
    → i < most
    → i < length bytes
    → get_or bytes i 0 ≡ b
    → 128 ≤ b
    → seen (under number i) (groups_at (most - i) (drop i bytes)) ≡ r
    → seen (under (with_group number i b) (i + 1)) (groups_at (most - (i + 1)) (drop (i + 1) bytes)) ≡ r
goes_on most i number b bytes r more inside e high so_far =
    let t : nat_lt b 128 ≡ false = le-ltb b 128 high in
    sym (under_more number i b (groups_at (most - (i + 1)) (drop (i + 1) bytes)))
    ∙ (rw (front most i b bytes more inside e, t) at so_far)

-- 32 bits of 64
pub fewer_bits : (n : ℕ) → n % 2 ^ 64 % 2 ^ 32 ≡ n % 2 ^ 32
fewer_bits n = omega arith
