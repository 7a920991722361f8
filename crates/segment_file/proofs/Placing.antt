-- Batches that are placed in their segment.
use Rattle.std.proofs.Common.{◌≡◌, ◌∙◌, ap, sym, refl, ℕ, ◌+◌, Bool, true, false, nat_lt, List, [], ◌∷◌, ◌++◌, length, arith, length-append}
use Rattle.log_terms.specs.Batch.{last_of}
use Rattle.log_terms.specs.Log.{joined, end_from, up_to}
use Rattle.segment_file.specs.declared.placed.Placed.{Placed}
use Rattle.segment_file.specs.Index.{placed, placed_from}
use Rattle.segment_file.specs.Growing.{end_after, size_after, ending_by, AreParted}

-- batches that are placed
pub placed_append : (at : ℕ) (xs ys : List (List ℕ)) → placed_from at (xs ++ ys) ≡ placed_from at xs ++ placed_from (at + length (joined xs)) ys
placed_append at [] ys = ap (λ n. placed_from n ys) (let same : at ≡ at + 0 = omega arith in same)
placed_append at (x ∷ xs) ys =
    let size = length-append x (joined xs) in
    let same : at + length x + length (joined xs) ≡ at + length (joined (x ∷ xs)) = omega (arith, size) in
    ap (λ ps. placed at x ∷ ps) (placed_append (at + length x) xs ys ∙ ap (λ n. placed_from (at + length x) xs ++ placed_from n ys) same)

pub placed_size : (at : ℕ) (xs : List (List ℕ)) → size_after at (placed_from at xs) ≡ at + length (joined xs)
placed_size at [] = omega arith
placed_size at (x ∷ xs) =
    let size = length-append x (joined xs) in
    let rest = placed_size (at + length x) xs in
    omega (arith, size, rest)

pub placed_end : (base at : ℕ) (xs : List (List ℕ)) → end_after base (placed_from at xs) ≡ end_from base xs
placed_end base at [] = refl
placed_end base at (x ∷ xs) = placed_end (last_of x + 1) (at + length x) xs

-- with a batch more
pub placed_push : (at : ℕ) (xs : List (List ℕ)) (batch : List ℕ) → placed_from at (xs ++ batch ∷ []) ≡ placed_from at xs ++ placed (at + length (joined xs)) batch ∷ []
placed_push at xs batch = placed_append at xs (batch ∷ [])

-- those that end by an offset
pub placed_up_to : (at end : ℕ) (xs : List (List ℕ)) → ending_by end (placed_from at xs) ≡ placed_from at (up_to end xs)
placed_up_to at end [] = refl
placed_up_to at end (x ∷ xs) = go (nat_lt (last_of x) end) refl (placed_up_to (at + length x) end xs)
  where
    go : (t : Bool) → nat_lt (last_of x) end ≡ t → ending_by end (placed_from (at + length x) xs) ≡ placed_from (at + length x) (up_to end xs)
        → ending_by end (placed_from at (x ∷ xs)) ≡ placed_from at (up_to end (x ∷ xs))
    go true t others = rw t (ap (λ ps. placed at x ∷ ps) others)
    go false t others = rw t refl

-- two parts
parted : (at : ℕ) (xs : List (List ℕ)) (front rest : List Placed) (former latter : List (List ℕ)) → xs ≡ former ++ latter → placed_from at former ≡ front → placed_from (at + length (joined former)) latter ≡ rest → AreParted at xs front rest
parted at xs front rest former latter parts front-is rest-is = record {
  former = former;
  latter = latter;
  parts = parts;
  front_is = front-is;
  rest_is = rest-is;
  size = ap (size_after at) (sym front-is) ∙ placed_size at former;
  ends = λ base. ap (end_after base) (sym front-is) ∙ placed_end base at former;
}

pub placed_parts : (at : ℕ) (xs : List (List ℕ)) (front rest : List Placed) → placed_from at xs ≡ front ++ rest → AreParted at xs front rest
placed_parts at xs [] rest e = parted at xs [] rest [] xs refl refl (ap (λ n. placed_from n xs) (let same : at + 0 ≡ at = omega arith in same) ∙ e)
placed_parts at [] (p ∷ front) rest e = absurd (cc)
placed_parts at (x ∷ xs) (p ∷ front) rest e =
    let first : placed at x ≡ p = cc in
    let others : placed_from (at + length x) xs ≡ front ++ rest = cc in
    let more = placed_parts (at + length x) xs front rest others in
    let size = length-append x (joined more.former) in
    let same : at + length (joined (x ∷ more.former)) ≡ at + length x + length (joined more.former) = omega (arith, size) in
    parted at (x ∷ xs) (p ∷ front) rest (x ∷ more.former) more.latter
    (ap (λ ys. x ∷ ys) more.parts)
    (ap (λ q. q ∷ placed_from (at + length x) more.former) first ∙ ap (λ ps. p ∷ ps) more.front_is)
    (ap (λ n. placed_from n more.latter) same ∙ more.rest_is)
