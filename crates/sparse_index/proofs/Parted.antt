-- Counting in a list of which the front passes a test and the rest fails it.
use Rattle.std.proofs.Common.{suc, ◌≡◌, ◌∙◌, sym, ap, refl, ℕ, ◌+◌, ◌<◌, ◌≤◌, List, [], ◌∷◌, Bool, true, false, cond, length, take, drop, get_or, arith, zero-add, add-zero, subst}
use Rattle.std.specs.Prelude.{count_by, filter}
use Rattle.std.specs.List.Sorted.{IsPartitionedBy}
use Rattle.std.proofs.lemmas.List.{take-append-drop, get_or-take, get_or-drop, length-take-le, length-drop, get_or_default}
use Rattle.std.proofs.lemmas.Bool.{false_from_ne_true}
use Rattle.std.proofs.lemmas.List.Sums.{sum_by-cons, sum_by-append}

module _ {X : Type 0} (p : X → Bool) where
  pub count-parts : (k : ℕ) (xs : List X) → count_by p xs ≡ count_by p (take k xs) + count_by p (drop k xs)
  count-parts k xs = ap (count_by p) (sym (take-append-drop k xs)) ∙ sum_by-append (λ x. cond (p x) 1 0) (take k xs) (drop k xs)

  pub count-all : (xs : List X) → ((k : ℕ) (d : X) → k < length xs → p (get_or xs k d) ≡ true) → count_by p xs ≡ length xs
  count-all [] all = refl
  count-all (x ∷ xs) all =
      sum_by-cons (λ y. cond (p y) 1 0) x xs
      ∙ (ap (λ (b : Bool). cond b 1 0 + count_by p xs) (all 0 x (omega arith))
      ∙ (ap (λ n. 1 + n) (count-all xs (λ k d l. all (suc k) d (omega (arith, l)))) ∙ omega arith))

  pub count-none : (xs : List X) → ((k : ℕ) (d : X) → k < length xs → p (get_or xs k d) ≡ false) → count_by p xs ≡ 0
  count-none [] none = refl
  count-none (x ∷ xs) none =
      sum_by-cons (λ y. cond (p y) 1 0) x xs
      ∙ (ap (λ (b : Bool). cond b 1 0 + count_by p xs) (none 0 x (omega arith))
      ∙ (zero-add (count_by p xs) ∙ count-none xs (λ k d l. none (suc k) d (omega (arith, l)))))

  pub parted-take : (k : ℕ) (xs : List X) → k ≤ length xs → IsPartitionedBy p xs → IsPartitionedBy p (take k xs)
  parted-take k xs l h i j d up within t =
      let short = length-take-le k xs l in
      let below : j < k = omega (arith, within, short) in
      get_or-take-passes i (omega (arith, up, below)) (h i j d up (omega (arith, below, l)) (get_or-takes j below t))
    where
      get_or-takes : (m : ℕ) → m < k → p (get_or (take k xs) m d) ≡ true → p (get_or xs m d) ≡ true
      get_or-takes m s e = ap p (sym (get_or-take k xs m d s)) ∙ e

      get_or-take-passes : (m : ℕ) → m < k → p (get_or xs m d) ≡ true → p (get_or (take k xs) m d) ≡ true
      get_or-take-passes m s e = ap p (get_or-take k xs m d s) ∙ e

  pub parted-drop : (k : ℕ) (xs : List X) → k ≤ length xs → IsPartitionedBy p xs → IsPartitionedBy p (drop k xs)
  parted-drop k xs l h i j d up within t =
      let long = length-drop k xs in
      ap p (get_or-drop k xs i d) ∙ h (k + i) (k + j) d (omega (arith, up)) (omega (arith, within, long, l)) (ap p (sym (get_or-drop k xs j d)) ∙ t)

  -- the item at a place passes, so all in front of it do
  pub count-front : (k : ℕ) (xs : List X) (e : X) → k < length xs → IsPartitionedBy p xs → p (get_or xs k e) ≡ true → count_by p (take k xs) ≡ k
  count-front k xs e l h t =
      let short = length-take-le k xs (omega (arith, l)) in
      count-all (take k xs) (λ j d within. ap p (get_or-take k xs j d (omega (arith, within, short))) ∙ h j k d (omega (arith, within, short)) l (ap p (get_or_default xs k d e l) ∙ t)) ∙ short

  -- the item at a place fails, so all after it do
  pub count-back : (k : ℕ) (xs : List X) (e : X) → k < length xs → IsPartitionedBy p xs → p (get_or xs k e) ≡ false → count_by p (drop k xs) ≡ 0
  count-back k xs e l h t =
      let long = length-drop k xs in
      count-none (drop k xs) (λ j d within. false_from_ne_true (p (get_or (drop k xs) j d)) (λ yes.
      let passes : p (get_or xs k d) ≡ true = h k (k + j) d (omega arith) (omega (arith, within, long, l)) (ap p (sym (get_or-drop k xs j d)) ∙ yes) in
      let fails : p (get_or xs k d) ≡ false = ap p (get_or_default xs k d e l) ∙ t in
      cc))

-- a test that passes where another does counts as it does
pub count-agree : {X : Type 0} (p q : X → Bool) → ((x : X) → p x ≡ q x) → (xs : List X) → count_by p xs ≡ count_by q xs
count-agree p q same [] = refl
count-agree p q same (x ∷ xs) =
    sum_by-cons (λ y. cond (p y) 1 0) x xs
    ∙ (ap (λ (b : Bool). cond b 1 0 + count_by p xs) (same x)
    ∙ (ap (λ n. cond (q x) 1 0 + n) (count-agree p q same xs)
    ∙ sym (sum_by-cons (λ y. cond (q y) 1 0) x xs)))

parted-tail : {X : Type 0} (p : X → Bool) (x : X) (xs : List X) → IsPartitionedBy p (x ∷ xs) → IsPartitionedBy p xs
parted-tail p x xs h i j d up within t = h (suc i) (suc j) d (omega (arith, up)) (omega (arith, within)) t

filter-none : {X : Type 0} (p : X → Bool) (xs : List X) → ((k : ℕ) (d : X) → k < length xs → p (get_or xs k d) ≡ false) → filter p xs ≡ []
filter-none p [] none = refl
filter-none p (x ∷ xs) none = ap (λ (b : Bool). cond b (x ∷ filter p xs) (filter p xs)) (none 0 x (omega arith)) ∙ filter-none p xs (λ k d l. none (suc k) d (omega (arith, l)))

filter-cases : {X : Type 0} (p : X → Bool) (b : Bool) (x : X) (xs : List X) → p x ≡ b → IsPartitionedBy p (x ∷ xs) → filter p xs ≡ take (count_by p xs) xs
    → cond b (x ∷ filter p xs) (filter p xs) ≡ take (cond b 1 0 + count_by p xs) (x ∷ xs)
filter-cases p true x xs e h ih = let one : 1 + count_by p xs ≡ suc (count_by p xs) = omega arith in rw one (ap (λ ys. x ∷ ys) ih)
filter-cases {X} p false x xs e h ih =
    let none = λ (k : ℕ) (d : X) (l : k < length xs). false_from_ne_true (p (get_or xs k d)) (λ yes. (let first : p x ≡ true = h 0 (suc k) d (omega arith) (omega (arith, l)) yes in cc)) in
    rw (count-none p xs none) (filter-none p xs none)

-- what passes is the front
pub filter-take : {X : Type 0} (p : X → Bool) (xs : List X) → IsPartitionedBy p xs → filter p xs ≡ take (count_by p xs) xs
filter-take p [] h = refl
filter-take p (x ∷ xs) h = filter-cases p (p x) x xs refl h (filter-take p xs (parted-tail p x xs h)) ∙ ap (λ n. take n (x ∷ xs)) (sym (sum_by-cons (λ y. cond (p y) 1 0) x xs))

-- one half in front that passes whole
pub half-passes : {X : Type 0} (p : X → Bool) (rest front back : List X) (k passed total : ℕ) (e : X) → k < length rest → IsPartitionedBy p rest → front ≡ take k rest → back ≡ drop k rest → p (get_or back 0 e) ≡ true
    → passed + count_by p rest ≡ total → passed + length front + count_by p back ≡ total
half-passes p rest front back k passed total e l h is-front is-back t count =
    let at : p (get_or rest k e) ≡ true = ap p (sym (ap (λ xs. get_or xs 0 e) is-back ∙ (get_or-drop k rest 0 e ∙ ap (λ n. get_or rest n e) (add-zero k)))) ∙ t in
    let parts = count-parts p k rest in
    let all : count_by p (take k rest) ≡ k = count-front p k rest e l h at in
    let same : count_by p back ≡ count_by p (drop k rest) = ap (count_by p) is-back in
    let long : length front ≡ k = ap length is-front ∙ length-take-le k rest (omega (arith, l)) in
    omega (arith, parts, all, same, long, count)

-- one half after that fails whole
pub half-fails : {X : Type 0} (p : X → Bool) (rest front back : List X) (k passed total : ℕ) (e : X) → k < length rest → IsPartitionedBy p rest → front ≡ take k rest → back ≡ drop k rest → p (get_or back 0 e) ≡ false
    → passed + count_by p rest ≡ total → passed + count_by p front ≡ total
half-fails p rest front back k passed total e l h is-front is-back t count =
    let at : p (get_or rest k e) ≡ false = ap p (sym (ap (λ xs. get_or xs 0 e) is-back ∙ (get_or-drop k rest 0 e ∙ ap (λ n. get_or rest n e) (add-zero k)))) ∙ t in
    let parts = count-parts p k rest in
    let none : count_by p (drop k rest) ≡ 0 = count-back p k rest e l h at in
    let same : count_by p front ≡ count_by p (take k rest) = ap (count_by p) is-front in
    omega (arith, parts, none, same, count)

pub parted-back : {X : Type 0} (p : X → Bool) (rest back : List X) (k : ℕ) → k ≤ length rest → IsPartitionedBy p rest → back ≡ drop k rest → IsPartitionedBy p back
parted-back p rest back k l h is = subst (IsPartitionedBy p) (sym is) (parted-drop p k rest l h)

pub parted-front : {X : Type 0} (p : X → Bool) (rest front : List X) (k : ℕ) → k ≤ length rest → IsPartitionedBy p rest → front ≡ take k rest → IsPartitionedBy p front
parted-front p rest front k l h is = subst (IsPartitionedBy p) (sym is) (parted-take p k rest l h)
