-- A list that is parted at a place: its front passes the test, and the rest fails it.
use Rattle.std.proofs.Common.{zero, suc, ◌≡◌, refl, ap, ℕ, ◌≤◌, List, [], ◌∷◌, Bool, true, false, length, take, drop, arith}
use Rattle.std.specs.Prelude.{filter, not, nat_lt, nat_le}
use Rattle.std.proofs.lemmas.Bool.Decides.{nat_tests}
use Rattle.std.specs.List.Sorted.{IsPartitionPoint}

-- the rest of a parted list is parted
parted-rest : {X : Type 0} (p : X → Bool) (x : X) (xs : List X) (i : ℕ) → IsPartitionPoint (λ y. p y ≡ true) (λ y. p y ≡ false) (x ∷ xs) (suc i) → IsPartitionPoint (λ y. p y ≡ true) (λ y. p y ≡ false) xs i
parted-rest p x xs i h = (λ k d low high. h.0 (suc k) d (omega arith) (omega (arith, high)), λ k d low high. h.1 (suc k) d (omega (arith, low)) (omega (arith, high)))

-- what fails from the first place on fails from the next place on
parted-none : {X : Type 0} (p : X → Bool) (x : X) (xs : List X) → IsPartitionPoint (λ y. p y ≡ true) (λ y. p y ≡ false) (x ∷ xs) 0 → IsPartitionPoint (λ y. p y ≡ true) (λ y. p y ≡ false) xs 0
parted-none p x xs h = (λ k d low high. absurd (omega (arith, high)), λ k d low high. h.1 (suc k) d (omega arith) (omega (arith, high)))

-- the front is what passes
pub take-parted : {X : Type 0} (p : X → Bool) (xs : List X) (i : ℕ) → i ≤ length xs → IsPartitionPoint (λ y. p y ≡ true) (λ y. p y ≡ false) xs i → take i xs ≡ filter p xs
take-parted p [] zero l h = refl
take-parted p [] (suc i) l h = absurd (omega (arith, l))
take-parted p (x ∷ xs) zero l h = let no : p x ≡ false = h.1 0 x (omega arith) (omega arith) in rw no (take-parted p xs zero (omega arith) (parted-none p x xs h))
take-parted p (x ∷ xs) (suc i) l h = let yes : p x ≡ true = h.0 0 x (omega arith) (omega arith) in rw yes (ap (λ ys. x ∷ ys) (take-parted p xs i (omega (arith, l)) (parted-rest p x xs i h)))

-- the rest is what fails
pub drop-parted : {X : Type 0} (p q : X → Bool) (xs : List X) (i : ℕ) → ((x : X) → q x ≡ not (p x)) → i ≤ length xs → IsPartitionPoint (λ y. p y ≡ true) (λ y. p y ≡ false) xs i → drop i xs ≡ filter q xs
drop-parted p q [] zero other l h = refl
drop-parted p q [] (suc i) other l h = absurd (omega (arith, l))
drop-parted p q (x ∷ xs) zero other l h = let no : p x ≡ false = h.1 0 x (omega arith) (omega arith) in rw (other x, no) (ap (λ ys. x ∷ ys) (drop-parted p q xs zero other (omega arith) (parted-none p x xs h)))
drop-parted p q (x ∷ xs) (suc i) other l h = let yes : p x ≡ true = h.0 0 x (omega arith) (omega arith) in rw (other x, yes) (drop-parted p q xs i other (omega (arith, l)) (parted-rest p x xs i h))

-- what doesn't start at or below an offset starts past it
pub not_le : (m n : ℕ) → nat_lt m n ≡ not (nat_le n m)
not_le m n = grind (arith, nat_tests)
