-- Parts of lists, and what is at their places.
use Rattle.std.proofs.Common.{◌≡◌, refl, ap, sym, ◌∙◌, ℕ, zero, suc, ◌+◌, ◌-◌, ◌<◌, ◌≤◌, List, [], ◌∷◌, ◌++◌, take, drop, length, Some, arith}
use Rattle.std.specs.Prelude.{slice_get}
use Rattle.std.proofs.lemmas.List.{drop-take, drop_more, take_more, length-drop, length-take-le}
use Rattle.std.proofs.lemmas.Option.{slice_get_within, get_or_from_slice_get}

-- the first of the first items
pub take_less : {A : Type 0} (n m : ℕ) (xs : List A) → n ≤ m → take n (take m xs) ≡ take n xs
take_less zero m xs l = refl
take_less (suc n) zero xs l = absurd (omega arith)
take_less (suc n) (suc m) [] l = refl
take_less (suc n) (suc m) (x ∷ xs) l = ap (λ ys. x ∷ ys) (take_less n m xs (omega arith))

-- how many items are between two places
pub length_between : {A : Type 0} (xs : List A) (from to : ℕ) → to ≤ length xs → length (drop from (take to xs)) ≡ to - from
length_between xs from to l = rw (length-drop from (take to xs), length-take-le to xs l) refl

-- the first of the items between two places
pub first_between : {A : Type 0} (xs : List A) (from to count : ℕ) → from + count ≤ to
    → drop from (take (from + count) xs) ≡ take count (drop from (take to xs))
first_between xs from to count l =
    let whole : from + (to - from) ≡ to = omega (arith, l) in
    let d = rw whole at (drop-take from (to - from) xs) in
    let most : count ≤ to - from = omega (arith, l) in
    rw d (drop-take from count xs ∙ sym (take_less count (to - from) (drop from xs) most))

-- an item of the first ones
pub get_take : {A : Type 0} (xs : List A) (to i : ℕ) → i < to → slice_get (take to xs) i ≡ slice_get xs i
get_take xs zero i l = absurd (omega arith)
get_take [] (suc to) i l = refl
get_take (x ∷ xs) (suc to) zero l = refl
get_take (x ∷ xs) (suc to) (suc i) l = get_take xs to i (omega arith)

-- an item of those after the first ones
pub get_drop : {A : Type 0} (xs : List A) (from i : ℕ) → slice_get (drop from xs) i ≡ slice_get xs (from + i)
get_drop xs zero i = let e : zero + i ≡ i = omega arith in rw e refl
get_drop [] (suc from) i = refl
get_drop (x ∷ xs) (suc from) i = let e : suc from + i ≡ suc (from + i) = omega arith in rw e (get_drop xs from i)

-- an item between two places
pub get_between : {A : Type 0} (xs : List A) (from to i : ℕ) → from + i < to
    → slice_get (drop from (take to xs)) i ≡ slice_get xs (from + i)
get_between xs from to i l = get_drop (take to xs) from i ∙ get_take xs to (from + i) l

-- the first items of a part
pub first_part : {A : Type 0} (xs part : List A) (from to count : ℕ) → drop from (take to xs) ≡ part → from ≤ to
    → to ≤ length xs → count ≤ length part → drop from (take (from + count) xs) ≡ take count part
first_part xs part from to count is order within l =
    let n : length part ≡ to - from = sym (ap length is) ∙ length_between xs from to within in
    first_between xs from to count (omega (arith, n, order, l)) ∙ ap (take count) is

-- an item of a part, at its place counted from the end
pub get_part : {A : Type 0} (xs part : List A) (from to i len : ℕ) (x : A) → drop from (take to xs) ≡ part → from ≤ to
    → to ≤ length xs → len ≡ length part → i < length part → slice_get xs (to - (len - i)) ≡ Some x → slice_get part i ≡ Some x
get_part xs part from to i len x is order within count below at =
    let n : length part ≡ to - from = sym (ap length is) ∙ length_between xs from to within in
    let place : to - (len - i) ≡ from + i = omega (arith, n, count, below, order) in
    let inside : from + i < to = omega (arith, n, below, order) in
    let e = get_between xs from to i inside in
    sym (ap (λ p. slice_get p i) is) ∙ (e ∙ (ap (λ k. slice_get xs k) (sym place) ∙ at))

-- the items from a place on, by the one that is there
pub drop_at : {A : Type 0} (xs : List A) (i : ℕ) (x : A) → slice_get xs i ≡ Some x → drop i xs ≡ x ∷ drop (i + 1) xs
drop_at xs i x at =
    drop_more xs i x (slice_get_within xs i x at) ∙ ap (λ y. y ∷ drop (i + 1) xs) (get_or_from_slice_get xs i x x at)

-- the items up to one, and that
pub take_at : {A : Type 0} (xs : List A) (i : ℕ) (x : A) → slice_get xs i ≡ Some x → take (i + 1) xs ≡ take i xs ++ x ∷ []
take_at xs i x at =
    take_more xs i x (slice_get_within xs i x at) ∙ ap (λ y. take i xs ++ y ∷ []) (get_or_from_slice_get xs i x x at)
