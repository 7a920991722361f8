-- A part that is set in a list.
use Rattle.std.proofs.Common.{◌≡◌, refl, ap, ℕ, zero, suc, List, [], ◌∷◌, slice_set, slice_get, Some}

-- to what it was
pub set_same : {A : Type 0} (xs : List A) (i : ℕ) (x : A) → slice_get xs i ≡ Some x → slice_set xs i x ≡ xs
set_same [] i x is = refl
set_same (y ∷ xs) zero x is = let same : y ≡ x = cc in rw same refl
set_same (y ∷ xs) (suc i) x is = ap (λ (zs : List _). y ∷ zs) (set_same xs i x is)

-- twice
pub set_twice : {A : Type 0} (xs : List A) (i : ℕ) (x y : A) → slice_set (slice_set xs i x) i y ≡ slice_set xs i y
set_twice [] i x y = refl
set_twice (z ∷ xs) zero x y = refl
set_twice (z ∷ xs) (suc i) x y = ap (λ (zs : List _). z ∷ zs) (set_twice xs i x y)
