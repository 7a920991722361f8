-- Lists: what is at a place, writes at a place, and lists that begin others.
use Rattle.std.proofs.Common.{◌≡◌, ◌≢◌, ◌⊎◌, inl, inr, ℕ, zero, suc, ◌≤◌, ◌<◌, List, [], ◌∷◌, ◌++◌, length, take, Some, None, Option, slice_get, slice_set, refl, ap, sym, subst, ◌∙◌, arith, append_assoc, length-append}
use Rattle.std.specs.Option.{option_and_then}
use mathlib.Core.List.{IsPrefix}

-- what a chain of options gives
pub and_then_some : {T U : Type 0} (f : T → Option U) (o : Option T) (q : U) → option_and_then f o ≡ Some q → (x : T) × (o ≡ Some x) × (f x ≡ Some q)
and_then_some f None q e = absurd cc
and_then_some f (Some x) q e = (x, refl, e)

-- what is at a place after a write
pub get-set : {A : Type 0} (xs : List A) (i : ℕ) (y : A) (j : ℕ) (x : A) → slice_get (slice_set xs i y) j ≡ Some x
    → ((j ≡ i) × (x ≡ y)) ⊎ ((j ≢ i) × (slice_get xs j ≡ Some x))
get-set [] i y j x e = absurd cc
get-set (z ∷ xs) zero y zero x e = inl (refl, cc)
get-set (z ∷ xs) zero y (suc j) x e = inr ((λ q. absurd (omega arith)), e)
get-set (z ∷ xs) (suc i) y zero x e = inr ((λ q. absurd (omega arith)), e)
get-set (z ∷ xs) (suc i) y (suc j) x e =
    elim (get-set xs i y j x e) [
      | inl h ↦ inl (ap suc h.0, h.1)
      | inr h ↦ inr ((λ q. h.0 (omega arith)), h.1)
    ]

-- a list begins itself
pub prefix_self : {A : Type 0} (xs : List A) → IsPrefix xs xs
prefix_self [] = ([], refl)
prefix_self (x ∷ xs) = (let r = prefix_self xs in r.0, ap (λ ys. x ∷ ys) (prefix_self xs).1)

-- what begins a list begins a longer one
pub prefix_more : {A : Type 0} (xs ys zs : List A) → IsPrefix xs ys → IsPrefix xs (ys ++ zs)
prefix_more xs ys zs p = (p.0 ++ zs, sym (append_assoc xs p.0 zs) ∙ ap (λ w. w ++ zs) p.1)

-- the first items begin the list
pub prefix_take : {A : Type 0} (n : ℕ) (xs : List A) → IsPrefix (take n xs) xs
prefix_take zero xs = (xs, refl)
prefix_take (suc n) [] = ([], refl)
prefix_take (suc n) (x ∷ xs) = (let r = prefix_take n xs in r.0, ap (λ ys. x ∷ ys) (prefix_take n xs).1)

-- what begins a list is no longer
pub prefix_length : {A : Type 0} (xs ys : List A) → IsPrefix xs ys → length xs ≤ length ys
prefix_length xs ys p = omega (arith, sym (ap length p.1) ∙ length-append xs p.0)

-- a write of what is there changes nothing
pub set-same : {A : Type 0} (xs : List A) (i : ℕ) (x : A) → slice_get xs i ≡ Some x → slice_set xs i x ≡ xs
set-same [] i x e = refl
set-same (z ∷ xs) zero x e = cc
set-same (z ∷ xs) (suc i) x e = ap (λ w. z ∷ w) (set-same xs i x e)

-- two lists, place by place, after a write in each at one place
pub pairs-set : {A B : Type 0} (R : A → B → Type 0) (xs : List A) (ys : List B) (i : ℕ) (x : A) (y : B)
    → ((j : ℕ) (a : A) (b : B) → slice_get xs j ≡ Some a → slice_get ys j ≡ Some b → R a b) → R x y
    → (j : ℕ) (a : A) (b : B) → slice_get (slice_set xs i x) j ≡ Some a → slice_get (slice_set ys i y) j ≡ Some b → R a b
pairs-set {A} {B} R xs ys i x y h r j a b at bt =
    elim (get-set xs i x j a at) [
      | inl one ↦ elim (get-set ys i y j b bt) [
        | inl two ↦ subst (λ (w : A). R w b) (sym one.1) (subst (λ (w : B). R x w) (sym two.1) r)
        | inr two ↦ absurd (two.0 one.0)
      ]
      | inr one ↦ elim (get-set ys i y j b bt) [
        | inl two ↦ absurd (one.0 two.0)
        | inr two ↦ h j a b one.1 two.1
      ]
    ]

-- what holds of each place holds after a write of something of which it holds
pub each-set : {A : Type 0} (P : A → Type 0) (xs : List A) (i : ℕ) (x : A)
    → ((j : ℕ) (a : A) → slice_get xs j ≡ Some a → P a) → P x
    → (j : ℕ) (a : A) → slice_get (slice_set xs i x) j ≡ Some a → P a
each-set {A} P xs i x h r j a at =
    elim (get-set xs i x j a at) [
      | inl one ↦ subst P (sym one.1) r
      | inr one ↦ h j a one.1
    ]

-- a write at a place keeps the length
pub length-slice_set : {A : Type 0} (xs : List A) (i : ℕ) (x : A) → length (slice_set xs i x) ≡ length xs
length-slice_set [] i x = refl
length-slice_set (z ∷ xs) zero x = refl
length-slice_set (z ∷ xs) (suc i) x = ap suc (length-slice_set xs i x)

-- what is in a beginning is in the list
pub prefix_get : {A : Type 0} (xs ys : List A) (k : ℕ) (x : A) → IsPrefix xs ys → slice_get xs k ≡ Some x → slice_get ys k ≡ Some x
prefix_get [] ys k x p h = absurd cc
prefix_get (y ∷ xs) [] k x p h = absurd (cc (p.1))
prefix_get (y ∷ xs) (z ∷ ys) zero x p h = cc (p.1, h)
prefix_get (y ∷ xs) (z ∷ ys) (suc k) x p h = prefix_get xs ys k x (p.0, cc (p.1)) h

-- within a list something is at each place
pub look : {A : Type 0} (xs : List A) (j : ℕ) → j < length xs → (x : A) × (slice_get xs j ≡ Some x)
look [] j h = absurd (omega arith)
look (x ∷ xs) zero h = (x, refl)
look (x ∷ xs) (suc j) h = look xs j (omega arith)

-- where something is is within the list
pub within : {A : Type 0} (xs : List A) (j : ℕ) (x : A) → slice_get xs j ≡ Some x → j < length xs
within [] j x e = absurd cc
within (y ∷ xs) zero x e = omega arith
within (y ∷ xs) (suc j) x e = let h = within xs j x e in omega arith

-- what begins a beginning begins the list
pub prefix_trans : {A : Type 0} (xs ys zs : List A) → IsPrefix xs ys → IsPrefix ys zs → IsPrefix xs zs
prefix_trans xs ys zs p q = (p.0 ++ q.0, sym (append_assoc xs p.0 q.0) ∙ ap (λ w. w ++ q.0) p.1 ∙ q.1)

-- two lists that make none are none
pub append_nil : {A : Type 0} (ws r : List A) → ws ++ r ≡ [] → ws ≡ []
append_nil [] r e = refl
append_nil (w ∷ ws) r e = absurd cc

-- what begins a list with one more at its end begins the list, or is all of it
pub prefix_snoc : {A : Type 0} (ws xs : List A) (v : A) → IsPrefix ws (xs ++ v ∷ []) → IsPrefix ws xs ⊎ (ws ≡ xs ++ v ∷ [])
prefix_snoc [] xs v p = inl (xs, refl)
prefix_snoc (w ∷ ws) [] v p = let n = append_nil ws p.0 (cc (p.1)) in inr (cc (p.1, n))
prefix_snoc (w ∷ ws) (x ∷ xs) v p =
    elim (prefix_snoc ws xs v (p.0, cc (p.1))) [
      | inl h ↦ inl (h.0, cc (p.1, h.1))
      | inr h ↦ inr (cc (p.1, h))
    ]

-- two lists that are one have one last item
pub snoc_last : {A : Type 0} (ws xs : List A) (u v : A) → ws ++ u ∷ [] ≡ xs ++ v ∷ [] → u ≡ v
snoc_last [] [] u v e = cc
snoc_last [] (x ∷ []) u v e = absurd cc
snoc_last [] (x ∷ y ∷ xs) u v e = absurd cc
snoc_last (w ∷ []) [] u v e = absurd cc
snoc_last (w ∷ z ∷ ws) [] u v e = absurd cc
snoc_last (w ∷ ws) (x ∷ xs) u v e = snoc_last ws xs u v cc

-- lists that begin each other are one
pub prefix_both : {A : Type 0} (xs ys : List A) → IsPrefix xs ys → IsPrefix ys xs → xs ≡ ys
prefix_both [] [] p q = refl
prefix_both [] (y ∷ ys) p q = absurd (cc (q.1))
prefix_both (x ∷ xs) [] p q = absurd (cc (p.1))
prefix_both (x ∷ xs) (y ∷ ys) p q = let r = prefix_both xs ys (p.0, cc (p.1)) (q.0, cc (q.1)) in cc (p.1, r)
