-- Spellings and readings of the same number.
use Rattle.std.proofs.Common.{◌≡◌, ◌∙◌, sym, ap, refl, ℕ, zero, suc, ◌+◌, ◌*◌, ◌/◌, ◌%◌, ◌^◌, ◌<◌, ◌≤◌, nat_lt, true, false, ℤ, pos, negsuc, List, [], ◌∷◌, ◌++◌, length, Result, Ok, Err, w32, w64, FitsSigned, inl, inr, arith}
use Rattle.std.proofs.lemmas.Bool.{le-ltb, lt-ltb, cases_lt}
use Rattle.std.proofs.lemmas.Int.{ints}
use Rattle.std.proofs.Math.Nat.{pow-suc, mod-le}
use Rattle.batch_prims.specs.Varint.{seen, above_group, low_bits, signed, groups_at, groups_of, shortest, from_zigzag, to_zigzag, varint_at, varlong_at, varint_bytes, varlong_bytes}

pub width_32 : (value : ℤ) → FitsSigned w32 value → to_zigzag value < 2 ^ 32
width_32 (pos n) fits = omega (arith, ints)
width_32 (negsuc n) fits = omega (arith, ints)

pub width_64 : (value : ℤ) → FitsSigned w64 value → to_zigzag value < 2 ^ 64
width_64 (pos n) fits = omega (arith, ints)
width_64 (negsuc n) fits = omega (arith, ints)

-- the groups of a number are read again, where as many may be read as it has
groups_again : (j k n : ℕ) (rest : List ℕ) → n < 128 * 128 ^ j → j ≤ k
    → groups_at (suc j) (groups_of (suc k) n ++ rest) ≡ Ok (n, rest)
groups_again zero k n rest small below = let last : nat_lt n 128 ≡ true = lt-ltb n 128 (omega arith) in rw (last, last) refl
groups_again (suc j) zero n rest small below = absurd (omega arith)
groups_again (suc j) (suc k) n rest small below = elim (cases_lt n 128) [
  | inl low ↦ let last : nat_lt n 128 ≡ true = lt-ltb n 128 low in rw (last, last) refl
  | inr high ↦
      let power : 128 ^ suc j ≡ 128 ^ j * 128 = pow-suc 128 j in
      let more : nat_lt n 128 ≡ false = le-ltb n 128 high in
      let flag : nat_lt (n % 128 + 128) 128 ≡ false = le-ltb (n % 128 + 128) 128 (omega arith) in
      let whole : (n % 128 + 128) % 128 + 128 * (n / 128) ≡ n = omega arith in
      rw (more, flag, groups_again j k (n / 128) rest (omega arith) (omega arith)) (ap (λ (m : ℕ). Ok (m, rest)) whole)
]

zigzag_again : (value : ℤ) → from_zigzag (to_zigzag value) ≡ value
unfolding from_zigzag
zigzag_again (pos n) =
    let even : (2 * n) % 2 ≡ 0 = omega arith in let half : 2 * n / 2 ≡ n = omega arith in
    rw (even, half) refl
zigzag_again (negsuc n) =
    let odd : (2 * n + 1) % 2 ≡ 1 = omega arith in let half : (2 * n + 1) / 2 ≡ n = omega arith in
    rw (odd, half) refl

pub varint_again : (value : ℤ) (rest : List ℕ) → to_zigzag value < 2 ^ 32
    → varint_at (varint_bytes value ++ rest) ≡ Ok (value, rest)
unfolding varint_at varint_bytes shortest
varint_again value rest small =
    let same : to_zigzag value % 2 ^ 32 ≡ to_zigzag value = omega arith in
    rw (groups_again 4 9 (to_zigzag value) rest (omega arith) (omega arith), same, zigzag_again value) refl

pub varlong_again : (value : ℤ) (rest : List ℕ) → to_zigzag value < 2 ^ 64
    → varlong_at (varlong_bytes value ++ rest) ≡ Ok (value, rest)
unfolding varlong_at varlong_bytes shortest
varlong_again value rest small =
    let same : to_zigzag value % 2 ^ 64 ≡ to_zigzag value = omega arith in
    rw (groups_again 9 9 (to_zigzag value) rest (omega arith) (omega arith), same, zigzag_again value) refl

-- the place of the number that is at n
there_again : (n : ℕ) → to_zigzag (from_zigzag n) ≡ n
unfolding from_zigzag
there_again n = elim (cases_lt (n % 2) 1) [
  | inl low ↦ let even : n % 2 ≡ 0 = omega arith in rw even (omega arith)
  | inr high ↦ let odd : n % 2 ≡ 1 = omega arith in rw odd (omega arith)
]

-- what was seen as y
seen_ok : {A B E : Type 0} (f : A → B) (r : Result A E) (y : B) → seen f r ≡ Ok y → (x : A) × (r ≡ Ok x) × (f x ≡ y)
seen_ok f (Ok x) y e = (x, refl, cc)
seen_ok f (Err d) y e = cc

-- a group more, where what was read after it is not shorter
above : (k m n b : ℕ) (bytes rest : List ℕ) (x : ℕ × List ℕ) → above_group b x ≡ (n, rest) → m ≤ n
    → ((l : ℕ) → l ≤ x.0 → length (groups_of k l) + length x.1 ≤ length bytes)
    → length (groups_of (suc k) m) + length rest ≤ suc (length bytes)
above k m n b bytes rest x e below behind =
    let number : b % 128 + 128 * x.0 ≡ n = ap (λ (y : ℕ × List ℕ). y.0) e in
    let size : length x.1 ≡ length rest = ap (λ (y : ℕ × List ℕ). length y.1) e in
    elim (cases_lt m 128) [
      | inl low ↦
          let last : nat_lt m 128 ≡ true = lt-ltb m 128 low in
          let least : length (groups_of k 0) + length x.1 ≤ length bytes = behind 0 (omega arith) in
          rw last (omega arith)
      | inr high ↦
          let more : nat_lt m 128 ≡ false = le-ltb m 128 high in
          let others : length (groups_of k (m / 128)) + length x.1 ≤ length bytes = behind (m / 128) (omega arith) in
          rw more (omega arith)
    ]

-- a number has no more groups than one that is read as it or more
groups_fewest : (j k m n : ℕ) (bytes rest : List ℕ) → groups_at j bytes ≡ Ok (n, rest) → m ≤ n → j ≤ k
    → length (groups_of k m) + length rest ≤ length bytes
groups_fewest zero k m n bytes rest e below fewer = cc
groups_fewest (suc j) k m n [] rest e below fewer = cc
groups_fewest (suc j) zero m n (b ∷ bytes) rest e below fewer = absurd (omega arith)
groups_fewest (suc j) (suc k) m n (b ∷ bytes) rest e below fewer = elim (cases_lt b 128) [
  | inl low ↦
      let last : nat_lt b 128 ≡ true = lt-ltb b 128 low in
      let read = rw last at e in
      let same : ◌≡◌ {A = ℕ × List ℕ} (b, bytes) (n, rest) = cc in
      let number : b ≡ n = ap (λ (y : ℕ × List ℕ). y.0) same in
      let size : length bytes ≡ length rest = ap (λ (y : ℕ × List ℕ). length y.1) same in
      let small : nat_lt m 128 ≡ true = lt-ltb m 128 (omega arith) in
      rw small (omega arith)
  | inr high ↦
      let more : nat_lt b 128 ≡ false = le-ltb b 128 high in
      let behind : (x : ℕ × List ℕ) × (groups_at j bytes ≡ Ok x) × (above_group b x ≡ (n, rest))
      = seen_ok (above_group b) (groups_at j bytes) (n, rest) (rw more at e) in
      above k m n b bytes rest behind.0 behind.2 below
      (λ l less. groups_fewest j k l behind.0.0 bytes behind.0.1 behind.1 less (omega arith))
]

-- a signed number has no more groups than one that is read as it
signed_fewest : (most k bits : ℕ) (bytes rest : List ℕ) (value : ℤ)
    → seen (λ x. signed (low_bits bits x)) (groups_at most bytes) ≡ Ok (value, rest)
    → most ≤ k
    → length (groups_of k (to_zigzag value)) + length rest ≤ length bytes
signed_fewest most k bits bytes rest value e fewer =
    let read : (x : ℕ × List ℕ) × (groups_at most bytes ≡ Ok x) × (signed (low_bits bits x) ≡ (value, rest))
    = seen_ok (λ (x : ℕ × List ℕ). signed (low_bits bits x)) (groups_at most bytes) (value, rest) e in
    let place : read.0.0 % 2 ^ bits ≡ to_zigzag value
    = sym (there_again (read.0.0 % 2 ^ bits)) ∙ ap (λ (y : ℤ × List ℕ). to_zigzag y.0) read.2 in
    let size : length read.0.1 ≡ length rest = ap (λ (y : ℤ × List ℕ). length y.1) read.2 in
    let least : read.0.0 % 2 ^ bits ≤ read.0.0 = mod-le read.0.0 (2 ^ bits) in
    let few : length (groups_of k (to_zigzag value)) + length read.0.1 ≤ length bytes
    = groups_fewest most k (to_zigzag value) read.0.0 bytes read.0.1 read.1 (omega arith) fewer in
    omega arith

pub varint_shortest : (bytes rest : List ℕ) (value : ℤ) → varint_at bytes ≡ Ok (value, rest)
    → length (varint_bytes value) + length rest ≤ length bytes
unfolding varint_at varint_bytes shortest
varint_shortest bytes rest value e = signed_fewest 5 10 32 bytes rest value e (omega arith)

pub varlong_shortest : (bytes rest : List ℕ) (value : ℤ) → varlong_at bytes ≡ Ok (value, rest)
    → length (varlong_bytes value) + length rest ≤ length bytes
unfolding varlong_at varlong_bytes shortest
varlong_shortest bytes rest value e = signed_fewest 10 10 64 bytes rest value e (omega arith)
