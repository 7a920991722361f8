-- Words in the order of their bytes.
use Rattle.std.proofs.Common.{◌≡◌, refl, ℕ, zero, suc, ◌<◌, ◌≤◌, List, [], ◌∷◌, length, drop, true, arith}
use Rattle.load_gen.specs.Summary.{stands_before}

-- a word that ends here precedes one that continues
first_before : (w : List ℕ) (i : ℕ) → i < length w → stands_before [] (drop i w) ≡ true
first_before [] i l = absurd (omega arith)
first_before (b ∷ w) zero l = refl
first_before (b ∷ w) (suc i) l = first_before w i (omega arith)

pub ends_before : (v w : List ℕ) (i : ℕ) → length v ≤ i → i < length w → stands_before (drop i v) (drop i w) ≡ true
ends_before [] w zero e l = first_before w zero l
ends_before [] w (suc i) e l = first_before w (suc i) l
ends_before (a ∷ v) w zero e l = absurd (omega arith)
ends_before (a ∷ v) [] (suc i) e l = absurd (omega arith)
ends_before (a ∷ v) (b ∷ w) (suc i) e l = ends_before v w i (omega arith) (omega arith)
