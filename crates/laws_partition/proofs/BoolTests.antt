-- Tests that hold, and options that have something.
use Rattle.std.proofs.Common.{◌≡◌, ◌≢◌, refl, ℕ, ◌<◌, ◌≤◌, ◌==◌, nat_lt, Some, None, Option, IsSomeAnd, Bool, true, false, not, ◌&&◌, arith}
use Rattle.std.specs.Prelude.{nat_le}
use Rattle.std.proofs.lemmas.Bool.Decides.{nat_tests}
use Rattle.registry.specs.Calls.{when}

-- what there is, where there is something
pub some_of : {A : Type 0} (P : A → Type 0) (o : Option A) → IsSomeAnd o P → (y : A) × (o ≡ Some y) × P y
some_of P (Some y) w = (y, refl, w)
some_of P None w = elim w [ ]

pub when_true : {A : Type 0} (b : Bool) (x : A) → b ≡ true → when b x ≡ Some x
when_true b x e = rw e refl

pub and_true : (a b : Bool) → a ≡ true → b ≡ true → a && b ≡ true
and_true a b e f = rw (e, f) refl

pub not_false : (a : Bool) → a ≡ false → not a ≡ true
not_false a e = rw e refl

pub eq_same : (n m : ℕ) → n ≡ m → (n == m) ≡ true
eq_same n m e = go (n == m) refl
  where
    go : (t : Bool) → (n == m) ≡ t → (n == m) ≡ true
    go true t = t
    go false t = absurd (let ne : n ≢ m = grind (arith, nat_tests, t) in ne e)

pub eq_differs : (n m : ℕ) → n ≢ m → (n == m) ≡ false
eq_differs n m e = go (n == m) refl
  where
    go : (t : Bool) → (n == m) ≡ t → (n == m) ≡ false
    go false t = t
    go true t = absurd (let is : n ≡ m = grind (arith, nat_tests, t) in e is)

pub le_true : (n m : ℕ) → n ≤ m → nat_le n m ≡ true
le_true n m h = go (nat_le n m) refl
  where
    go : (t : Bool) → nat_le n m ≡ t → nat_le n m ≡ true
    go true t = t
    go false t = absurd (let lt : m < n = grind (arith, nat_tests, t) in omega (arith, lt, h))

pub le_false : (n m : ℕ) → m < n → nat_le n m ≡ false
le_false n m h = go (nat_le n m) refl
  where
    go : (t : Bool) → nat_le n m ≡ t → nat_le n m ≡ false
    go false t = t
    go true t = absurd (let le : n ≤ m = grind (arith, nat_tests, t) in omega (arith, le, h))

pub lt_true : (n m : ℕ) → n < m → nat_lt n m ≡ true
lt_true n m h = go (nat_lt n m) refl
  where
    go : (t : Bool) → nat_lt n m ≡ t → nat_lt n m ≡ true
    go true t = t
    go false t = absurd (let le : m ≤ n = grind (arith, nat_tests, t) in omega (arith, le, h))

pub lt_false : (n m : ℕ) → m ≤ n → nat_lt n m ≡ false
lt_false n m h = go (nat_lt n m) refl
  where
    go : (t : Bool) → nat_lt n m ≡ t → nat_lt n m ≡ false
    go false t = t
    go true t = absurd (let lt : n < m = grind (arith, nat_tests, t) in omega (arith, lt, h))
