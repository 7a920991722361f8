-- Entries in order.
use Rattle.std.proofs.Common.{zero, suc, ◌≡◌, ◌∙◌, sym, ap, refl, ℕ, ◌+◌, ◌<◌, List, [], ◌∷◌, ◌++◌, Some, None, Bool, true, cond, length, take, get_or, arith, add-one, subst}
use Rattle.std.specs.Prelude.{count_by, slice_get}
use Rattle.std.specs.List.{zip}
use Rattle.std.specs.List.Sorted.{IsPartitionedBy}
use Rattle.std.specs.Option.{ForSome}
use Rattle.std.proofs.lemmas.List.Sums.{sum_by-cons, count_by-le-length}
use Rattle.std.proofs.lemmas.Option.{slice_get-get_or, same_Some}
use Rattle.std.proofs.lemmas.Slice.Zip.{length-zip, get_or-zip}
use Rattle.sparse_index.proofs.Parted.{filter-take}
use Rattle.sparse_index.specs.Entries.{IsChain, last_of, last_passing}

-- columns of one length grow by an entry
pub zip-push : {A B : Type 0} (xs : List A) (ys : List B) (a : A) (b : B) → length xs ≡ length ys → zip (xs ++ a ∷ []) (ys ++ b ∷ []) ≡ zip xs ys ++ (a, b) ∷ []
zip-push [] [] a b h = refl
zip-push [] (y ∷ ys) a b h = absurd (omega (arith, h))
zip-push (x ∷ xs) [] a b h = absurd (omega (arith, h))
zip-push (x ∷ xs) (y ∷ ys) a b h = ap (λ es. (x, y) ∷ es) (zip-push xs ys a b (omega (arith, h)))

-- a column is counted as the entries are
pub count-firsts : {A B : Type 0} (p : A → Bool) (xs : List A) (ys : List B) → length xs ≡ length ys → count_by (λ e. p e.0) (zip xs ys) ≡ count_by p xs
count-firsts p [] ys h = refl
count-firsts p (x ∷ xs) [] h = absurd (omega (arith, h))
count-firsts p (x ∷ xs) (y ∷ ys) h =
    sum_by-cons (λ e. cond (p e.0) 1 0) (x, y) (zip xs ys)
    ∙ (ap (λ n. cond (p x) 1 0 + n) (count-firsts p xs ys (omega (arith, h))) ∙ sym (sum_by-cons (λ v. cond (p v) 1 0) x xs))

-- and parted as they are
pub parted-firsts : {A B : Type 0} (p : A → Bool) (xs : List A) (ys : List B) (b : B) → length xs ≡ length ys → IsPartitionedBy (λ e. p e.0) (zip xs ys) → IsPartitionedBy p xs
parted-firsts p xs ys b even h i j d up within t =
    let at-i = get_or-zip xs ys i (d, b) (omega (arith, up, within)) (omega (arith, up, within, even)) in
    let at-j = get_or-zip xs ys j (d, b) within (omega (arith, within, even)) in
    ap (λ e. p e.0) (sym at-i) ∙ h i j (d, b) up (omega (arith, within, even, length-zip xs ys)) (ap (λ e. p e.0) at-j ∙ t)

-- each entry of a chain fits
pub chain-fits : {X : Type 0} (Fits : X → Type 0) (R : X → X → Type 0) (xs : List X) → IsChain Fits R xs → (k : ℕ) (d : X) → k < length xs → Fits (get_or xs k d)
chain-fits Fits R [] h k d l = absurd (omega (arith, l))
chain-fits Fits R (x ∷ xs) h zero d l = h.0
chain-fits Fits R (x ∷ xs) h (suc k) d l = chain-fits Fits R xs h.2 k d (omega (arith, l))

module _ {X : Type 0} (Fits : X → Type 0) (R : X → X → Type 0) (p : X → Bool) (falls : (x y : X) → R x y → p y ≡ true → p x ≡ true) where
  chain-head : (xs : List X) (x : X) → IsChain Fits R (x ∷ xs) → (j : ℕ) (d : X) → j < length xs → p (get_or xs j d) ≡ true → p x ≡ true
  chain-head [] x h j d l t = absurd (omega (arith, l))
  chain-head (y ∷ xs) x h zero d l t = falls x y h.1 t
  chain-head (y ∷ xs) x h (suc j) d l t = falls x y h.1 (chain-head xs y h.2 j d (omega (arith, l)) t)

  -- a test that passes in front of what passes it parts a chain
  pub chain-parted : (xs : List X) → IsChain Fits R xs → IsPartitionedBy p xs
  chain-parted [] h i j d up within t = absurd (omega (arith, within))
  chain-parted (x ∷ xs) h zero zero d up within t = t
  chain-parted (x ∷ xs) h zero (suc j) d up within t = chain-head xs x h j d (omega (arith, within)) t
  chain-parted (x ∷ xs) h (suc i) zero d up within t = absurd (omega (arith, up))
  chain-parted (x ∷ xs) h (suc i) (suc j) d up within t = chain-parted xs h.2 i j d (omega (arith, up)) (omega (arith, within)) t

-- a chain grows by an entry that the last one precedes
pub chain-push : {X : Type 0} (Fits : X → Type 0) (R : X → X → Type 0) (xs : List X) (x : X) → IsChain Fits R xs → Fits x → ForSome (last_of xs) (λ last. R last x) → IsChain Fits R (xs ++ x ∷ [])
chain-push Fits R [] x h fits above = (fits, tt, tt)
chain-push Fits R (y ∷ []) x h fits above = (h.0, above y refl, (fits, tt, tt))
chain-push Fits R (y ∷ z ∷ xs) x h fits above = (h.0, h.1, chain-push Fits R (z ∷ xs) x h.2 fits above)

last-take : {X : Type 0} (xs : List X) (k : ℕ) → k < length xs → last_of (take (suc k) xs) ≡ slice_get xs k
last-take [] k l = absurd (omega (arith, l))
last-take (x ∷ xs) zero l = refl
last-take (x ∷ []) (suc k) l = absurd (omega (arith, l))
last-take (x ∷ y ∷ xs) (suc k) l = last-take (y ∷ xs) k (omega (arith, l))

-- the last that passes, by how many do
pub last-counted : {X : Type 0} (p : X → Bool) (xs : List X) (k : ℕ) (d : X) → IsPartitionedBy p xs → k + 1 ≡ count_by p xs → last_passing p xs ≡ Some (get_or xs k d)
last-counted p xs k d h e =
    let within = count_by-le-length p xs in
    let inside : k < length xs = omega (arith, within, e) in
    ap last_of (filter-take p xs h ∙ ap (λ n. take n xs) (sym e ∙ add-one k)) ∙ (last-take xs k inside ∙ slice_get-get_or xs k d inside)

pub last-none : {X : Type 0} (p : X → Bool) (xs : List X) → IsPartitionedBy p xs → count_by p xs ≡ 0 → last_passing p xs ≡ None
last-none p xs h e = ap last_of (filter-take p xs h ∙ ap (λ n. take n xs) e)

-- the last of a chain that grew: it fits, and the one before precedes it
pub chain-last : {X : Type 0} (Fits : X → Type 0) (R : X → X → Type 0) (xs : List X) (x : X) → IsChain Fits R (xs ++ x ∷ []) → Fits x × ForSome (last_of xs) (λ last. R last x)
chain-last Fits R [] x h = (h.0, λ last e. absurd (cc))
chain-last Fits R (y ∷ []) x h = (h.2.0, λ last e. (let same : y ≡ last = same_Some y last e in subst (λ z. R z x) same h.1))
chain-last Fits R (y ∷ z ∷ xs) x h = chain-last Fits R (z ∷ xs) x h.2

-- the last entry is at the last place
pub last-index : {X : Type 0} (xs : List X) (k : ℕ) → k + 1 ≡ length xs → last_of xs ≡ slice_get xs k
last-index [] k h = absurd (omega (arith, h))
last-index (x ∷ []) zero h = refl
last-index (x ∷ []) (suc k) h = absurd (omega (arith, h))
last-index (x ∷ y ∷ xs) zero h = absurd (omega (arith, h))
last-index (x ∷ y ∷ xs) (suc k) h = last-index (y ∷ xs) k (omega (arith, h))

-- the second column is counted as the entries are
pub count-seconds : {A B : Type 0} (p : B → Bool) (xs : List A) (ys : List B) → length xs ≡ length ys → count_by (λ e. p e.1) (zip xs ys) ≡ count_by p ys
count-seconds p [] [] h = refl
count-seconds p [] (y ∷ ys) h = absurd (omega (arith, h))
count-seconds p (x ∷ xs) [] h = absurd (omega (arith, h))
count-seconds p (x ∷ xs) (y ∷ ys) h =
    sum_by-cons (λ e. cond (p e.1) 1 0) (x, y) (zip xs ys)
    ∙ (ap (λ n. cond (p y) 1 0 + n) (count-seconds p xs ys (omega (arith, h))) ∙ sym (sum_by-cons (λ v. cond (p v) 1 0) y ys))

-- and parted as they are
pub parted-seconds : {A B : Type 0} (p : B → Bool) (xs : List A) (ys : List B) (a : A) → length xs ≡ length ys → IsPartitionedBy (λ e. p e.1) (zip xs ys) → IsPartitionedBy p ys
parted-seconds p xs ys a even h i j d up within t =
    let at-i = get_or-zip xs ys i (a, d) (omega (arith, up, within, even)) (omega (arith, up, within)) in
    let at-j = get_or-zip xs ys j (a, d) (omega (arith, within, even)) within in
    ap (λ e. p e.1) (sym at-i) ∙ h i j (a, d) up (omega (arith, within, even, length-zip xs ys)) (ap (λ e. p e.1) at-j ∙ t)

-- the fronts of columns are the front of the entries
pub zip-take : {A B : Type 0} (k : ℕ) (xs : List A) (ys : List B) → zip (take k xs) (take k ys) ≡ take k (zip xs ys)
zip-take zero xs ys = refl
zip-take (suc k) [] ys = refl
zip-take (suc k) (x ∷ xs) [] = refl
zip-take (suc k) (x ∷ xs) (y ∷ ys) = ap (λ es. (x, y) ∷ es) (zip-take k xs ys)
