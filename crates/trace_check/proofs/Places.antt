-- A list that is made to reach a place, and changed there.
use Rattle.std.proofs.Common.{◌≡◌, ◌∙◌, refl, sym, ap, subst, ℕ, zero, suc, ◌+◌, ◌<◌, ◌≤◌, List, [], ◌∷◌, ◌++◌, length, take, drop, map, get_or, Some, arith, length-take, length-append}
use Rattle.std.specs.Prelude.{slice_get, slice_set, unwrap_or}
use Rattle.std.proofs.lemmas.List.{length-map, map_more}
use Rattle.trace_check.specs.Places.{with_one}

-- it gets the item at its end, and is as it was where it reaches past the place
pub with_end : {A : Type 0} (d : A) (xs : List A) → with_one d (length xs) xs ≡ xs ++ d ∷ []
with_end d [] = refl
with_end {A} d (x ∷ xs) = ap (λ (k : List A). x ∷ k) (with_end d xs)

pub with_same : {A : Type 0} (d : A) (n : ℕ) (xs : List A) → n < length xs → with_one d n xs ≡ xs
with_same d n [] l = absurd (omega (arith, l))
with_same d zero (x ∷ xs) l = refl
with_same {A} d (suc n) (x ∷ xs) l = ap (λ (k : List A). x ∷ k) (with_same d n xs (omega (arith, l)))

-- it reaches past the place
pub with_reaches : {A : Type 0} (d : A) (n : ℕ) (xs : List A) → n ≤ length xs → n < length (with_one d n xs)
with_reaches d zero [] l = omega arith
with_reaches d zero (x ∷ xs) l = omega arith
with_reaches d (suc n) [] l = absurd (omega (arith, l))
with_reaches d (suc n) (x ∷ xs) l = let rest = with_reaches d n xs (omega (arith, l)) in omega (arith, rest)

-- after a front is what was there, or the item
there : {A : Type 0} (d : A) (front back : List A) → slice_get (with_one d (length front) (front ++ back)) (length front) ≡ Some (unwrap_or (slice_get back 0) d)
there d [] [] = refl
there d [] (x ∷ back) = refl
there d (y ∷ front) back = there d front back

-- what is put there follows the front
put : {A : Type 0} (d : A) (front back : List A) (y : A) → slice_set (with_one d (length front) (front ++ back)) (length front) y ≡ (front ++ y ∷ []) ++ drop 1 back
put d [] [] y = refl
put d [] (x ∷ back) y = refl
put {A} d (z ∷ front) back y = ap (λ (k : List A). z ∷ k) (put d front back y)

first_behind : {A : Type 0} (n : ℕ) (xs : List A) → slice_get (drop n xs) 0 ≡ slice_get xs n
first_behind zero [] = refl
first_behind zero (x ∷ xs) = refl
first_behind (suc n) [] = refl
first_behind (suc n) (x ∷ xs) = first_behind n xs

behind_next : {A : Type 0} (n : ℕ) (xs : List A) → drop 1 (drop n xs) ≡ drop (suc n) xs
behind_next zero [] = refl
behind_next zero (x ∷ xs) = refl
behind_next (suc n) [] = refl
behind_next (suc n) (x ∷ xs) = behind_next n xs

front_long : {A B : Type 0} (f : A → B) (xs : List A) (i : ℕ) → i ≤ length xs → length (map f (take i xs)) ≡ i
front_long f xs i l = grind (arith, length-map, length-take, l)

-- the first i places are made of another list, the others are as they were
abbrev pub partly : {A B : Type 0} → (A → B) → List A → ℕ → List B → List B
partly f xs i ys = map f (take i xs) ++ drop i ys

pub partly_long : {A B : Type 0} (f : A → B) (xs : List A) (i : ℕ) (ys : List B) → i ≤ length xs → i ≤ length (partly f xs i ys)
partly_long f xs i ys l = let n = front_long f xs i l in grind (arith, length-append, n)

-- at the next place is what was there, or the item
pub partly_there : {A B : Type 0} (f : A → B) (xs : List A) (i : ℕ) (ys : List B) (d : B) → i ≤ length xs
    → slice_get (with_one d i (partly f xs i ys)) i ≡ Some (unwrap_or (slice_get ys i) d)
partly_there {A} {B} f xs i ys d l =
    let front = map f (take i xs) in
    let all = there d front (drop i ys) in
    let n : length front ≡ i = front_long f xs i l in
    subst (λ (k : ℕ). slice_get (with_one d k (front ++ drop i ys)) k ≡ Some (unwrap_or (slice_get (drop i ys) 0) d)) n all
    ∙ ap (λ (o : _). Some (unwrap_or o d)) (first_behind i ys)

-- and what is made of the next one is put there
pub partly_more : {A B : Type 0} (f : A → B) (xs : List A) (i : ℕ) (x : A) (ys : List B) (d : B) → i < length xs → x ≡ get_or xs i x
    → slice_set (with_one d i (partly f xs i ys)) i (f x) ≡ partly f xs (i + 1) ys
partly_more {A} {B} f xs i x ys d l is =
    let front = map f (take i xs) in
    let n : length front ≡ i = front_long f xs i (omega (arith, l)) in
    let on : suc i ≡ i + 1 = omega arith in
    let done = subst (λ (k : ℕ). slice_set (with_one d k (front ++ drop i ys)) k (f x) ≡ (front ++ f x ∷ []) ++ drop 1 (drop i ys)) n (put d front (drop i ys) (f x)) in
    let more : map f (take (i + 1) xs) ≡ front ++ f x ∷ [] = map_more f xs i x l ∙ ap (λ (z : A). front ++ f z ∷ []) (sym is) in
    done ∙ ap (λ (k : List B). (front ++ f x ∷ []) ++ k) (behind_next i ys ∙ ap (λ (k : ℕ). drop k ys) on) ∙ ap (λ (k : List B). k ++ drop (i + 1) ys) (sym more)
