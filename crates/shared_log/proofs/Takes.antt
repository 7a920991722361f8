-- The first items of a list of two parts and one item more.
use Rattle.std.proofs.Common.{◌≡◌, ◌≤◌, ◌<◌, ◌+◌, ◌-◌, ◌++◌, ◌∷◌, [], List, ℕ, length, take, refl, arith, rules, length-append, append_assoc}
use Rattle.std.proofs.lemmas.List.{take-append-le}
use Rattle.std.proofs.Math.Seq.{take-append-add}

-- the first items past a list's end
pub take_past : {A : Type 0} (xs ys : List A) (n m : ℕ) → m ≡ length xs + n → take m (xs ++ ys) ≡ xs ++ take n ys
take_past xs ys n m sum = rw sum (take-append-add xs ys n)

-- so many as end in the second part
pub take_within : {A : Type 0} (older newer : List A) (last : A) (count : ℕ) → length older < count → count ≤ length older + length newer
    → take count (older ++ newer ++ last ∷ []) ≡ older ++ take (count - length older) newer
take_within older newer last count past within =
    let front : take count ((older ++ newer) ++ last ∷ []) ≡ take count (older ++ newer)
    = take-append-le count (older ++ newer) (last ∷ []) (omega (arith, within, length-append older newer)) in
    rw front (take_past older newer (count - length older) count (omega (arith, past)))

-- the same behind others, where the list has more
pub placed_within : (rest older newer list : List (List ℕ)) (last : List ℕ) (count : ℕ) → list ≡ older ++ newer ++ last ∷ []
    → length older < count → count < length list
    → (rest ++ older) ++ take (count - length older) newer ≡ rest ++ take count list
placed_within rest older newer list last count is past within =
    let sizes : length (older ++ newer ++ last ∷ []) ≡ length older + length newer + 1
    = rw (length-append (older ++ newer) (last ∷ []), length-append older newer) refl in
    let most : count < length (older ++ newer ++ last ∷ []) = rw (← is) within in
    rw (is, take_within older newer last count past (omega (arith, sizes, most))) (append_assoc rest older (take (count - length older) newer))

-- the first items past a list's end, by how many there are before
pub take_front : (xs ys : List (List ℕ)) (before count : ℕ) → before ≡ length xs → before < count
    → take count (xs ++ ys) ≡ xs ++ take (count - before) ys
take_front xs ys before count is past = take_past xs ys (count - before) count (omega (arith, is, past))
