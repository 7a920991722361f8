-- A list that is made to reach a place.
use Rattle.std.specs.Prelude.{ℕ, zero, suc, List, [], ◌∷◌}

-- the list with this item at the place, where it ends right before it
abbrev pub with_one : {A : Type 0} → A → ℕ → List A → List A
with_one d zero [] = d ∷ []
with_one d zero (x ∷ xs) = x ∷ xs
with_one d (suc n) [] = []
with_one d (suc n) (x ∷ xs) = x ∷ with_one d n xs
