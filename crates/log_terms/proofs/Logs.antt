-- Consecutive batches, their ends and the lists that begin them.
use Rattle.std.proofs.Common.{◌≡◌, subst, ℕ, ◌≤◌, ◌<◌, ◌+◌, List, [], ◌∷◌, ◌++◌, Bool, true, false, refl, ap, sym, ◌∙◌, arith}
use Rattle.std.specs.Prelude.{nat_lt}
use Rattle.std.proofs.lemmas.Bool.Decides.{nat_tests}
use mathlib.Core.List.{IsPrefix}
use Rattle.log_terms.specs.Batch.{base_of, last_of}
use Rattle.log_terms.specs.Log.{IsConsecutive, end_from, end_of, up_to, EndsAt}
use Rattle.log_terms.proofs.Lists.{prefix_self, prefix_trans, prefix_both}

-- a test that holds
pub lt_true : (a b : ℕ) → a < b → nat_lt a b ≡ true
lt_true a b h = go (nat_lt a b) refl
  where
    go : (t : Bool) → nat_lt a b ≡ t → nat_lt a b ≡ true
    go true e = e
    go false e = let n : b ≤ a = grind (arith, nat_tests, e) in absurd (omega (arith, n))

-- a test that doesn't
pub lt_false : (a b : ℕ) → b ≤ a → nat_lt a b ≡ false
lt_false a b h = go (nat_lt a b) refl
  where
    go : (t : Bool) → nat_lt a b ≡ t → nat_lt a b ≡ false
    go false e = e
    go true e = let n : a < b = grind (arith, nat_tests, e) in absurd (omega (arith, n))

-- the end of a list continues from the end of its beginning
pub end_append : (n : ℕ) (xs ys : List (List ℕ)) → end_from n (xs ++ ys) ≡ end_from (end_from n xs) ys
end_append n [] ys = refl
end_append n (x ∷ xs) ys = end_append (last_of x + 1) xs ys

-- a list ends at or past where it begins
pub end_above : (n : ℕ) (vs : List (List ℕ)) → IsConsecutive n vs → n ≤ end_from n vs
end_above n [] c = omega arith
end_above n (v ∷ vs) c = let h = end_above (last_of v + 1) vs c.1 in omega (arith, h, c.0)

-- a beginning is consecutive
pub consecutive_prefix : (n : ℕ) (xs ys : List (List ℕ)) → IsPrefix xs ys → IsConsecutive n ys → IsConsecutive n xs
consecutive_prefix n [] ys p c = tt
consecutive_prefix n (x ∷ xs) [] p c = absurd (cc (p.1))
consecutive_prefix n (x ∷ xs) (y ∷ ys) p c =
    let same : y ≡ x = cc (p.1) in
    let d = subst (λ (w : List ℕ). IsConsecutive n (w ∷ ys)) same c in
    (d.0, consecutive_prefix (last_of x + 1) xs ys (p.0, cc (p.1)) d.1)

-- a batch that begins at the end continues
pub consecutive_snoc : (n : ℕ) (xs : List (List ℕ)) (v : List ℕ) → IsConsecutive n xs → base_of v ≡ end_from n xs → IsConsecutive n (xs ++ v ∷ [])
consecutive_snoc n [] v c e = (e, tt)
consecutive_snoc n (x ∷ xs) v c e = (c.0, consecutive_snoc (last_of x + 1) xs v c.1 e)

-- of two beginnings of one list the one that ends first begins the other
pub nested : (n : ℕ) (xs ys zs : List (List ℕ)) → IsConsecutive n zs → IsPrefix xs zs → IsPrefix ys zs → end_from n xs ≤ end_from n ys → IsPrefix xs ys
nested n [] ys zs c p q le = (ys, refl)
nested n (x ∷ xs) ys [] c p q le = absurd (cc (p.1))
nested n (x ∷ xs) [] (z ∷ zs) c p q le =
    let d = consecutive_prefix n (x ∷ xs) (z ∷ zs) p c in
    let h = end_above (last_of x + 1) xs d.1 in
    absurd (omega (arith, h, d.0, le))
nested n (x ∷ xs) (y ∷ ys) (z ∷ zs) c p q le =
    let same : z ≡ x = cc (p.1) in
    let also : y ≡ x = cc (p.1, q.1) in
    let d = subst (λ (w : List ℕ). IsConsecutive n (w ∷ zs)) same c in
    let le2 : end_from (last_of x + 1) xs ≤ end_from (last_of x + 1) ys = subst (λ (w : List ℕ). end_from n (x ∷ xs) ≤ end_from n (w ∷ ys)) also le in
    let r = nested (last_of x + 1) xs ys zs d.1 (p.0, cc (p.1)) (q.0, cc (q.1)) le2 in
    (r.0, cc (also, r.1))

-- beginnings of one list that end at one offset are one
pub one_end : (n : ℕ) (xs ys zs : List (List ℕ)) → IsConsecutive n zs → IsPrefix xs zs → IsPrefix ys zs → end_from n xs ≡ end_from n ys → xs ≡ ys
one_end n xs ys zs c p q e = prefix_both xs ys (nested n xs ys zs c p q (omega (arith, e))) (nested n ys xs zs c q p (omega (arith, e)))

-- the batches up to n begin the list
pub up_to_prefix : (n : ℕ) (vs : List (List ℕ)) → IsPrefix (up_to n vs) vs
up_to_prefix n [] = ([], refl)
up_to_prefix n (v ∷ vs) = go (nat_lt (last_of v) n) refl (up_to_prefix n vs)
  where
    go : (t : Bool) → nat_lt (last_of v) n ≡ t → IsPrefix (up_to n vs) vs → IsPrefix (up_to n (v ∷ vs)) (v ∷ vs)
    go true e r = rw e (r.0, ap (λ w. v ∷ w) r.1)
    go false e r = rw e (v ∷ vs, refl)

-- what ends at n is what up_to gives
pub up_to_is : (m n : ℕ) (xs vs : List (List ℕ)) → IsConsecutive m vs → IsPrefix xs vs → end_from m xs ≡ n → up_to n vs ≡ xs
up_to_is m n [] [] c p e = refl
up_to_is m n [] (v ∷ vs) c p e = let f = lt_false (last_of v) n (omega (arith, e, c.0)) in rw f refl
up_to_is m n (x ∷ xs) [] c p e = absurd (cc (p.1))
up_to_is m n (x ∷ xs) (v ∷ vs) c p e =
    let same : v ≡ x = cc (p.1) in
    let d = subst (λ (w : List ℕ). IsConsecutive m (w ∷ vs)) same c in
    let h = end_above (last_of x + 1) xs (consecutive_prefix (last_of x + 1) xs vs (p.0, cc (p.1)) d.1) in
    let f = lt_true (last_of x) n (omega (arith, h, e)) in
    let g = up_to_is (last_of x + 1) n xs vs d.1 (p.0, cc (p.1)) e in
    let r : up_to n (x ∷ vs) ≡ x ∷ xs = rw f (ap (λ w. x ∷ w) g) in
    subst (λ (w : List ℕ). up_to n (w ∷ vs) ≡ x ∷ xs) (sym same) r

-- where n is an end, they end there
pub up_to_end : (n : ℕ) (vs : List (List ℕ)) → IsConsecutive 0 vs → EndsAt n vs → end_of (up_to n vs) ≡ n
up_to_end n vs c h = ap end_of (up_to_is 0 n h.0 vs c h.1 h.2) ∙ h.2

-- a beginning that ends at or below n begins them
pub in_up_to : (n : ℕ) (xs vs : List (List ℕ)) → IsConsecutive 0 vs → IsPrefix xs vs → EndsAt n vs → end_of xs ≤ n → IsPrefix xs (up_to n vs)
in_up_to n xs vs c p h le = nested 0 xs (up_to n vs) vs c p (up_to_prefix n vs) (omega (arith, le, up_to_end n vs c h))

-- an end at or below n is one of them
pub ends_in_up_to : (m n : ℕ) (vs : List (List ℕ)) → IsConsecutive 0 vs → EndsAt m vs → EndsAt n vs → m ≤ n → EndsAt m (up_to n vs)
ends_in_up_to m n vs c h k le = (h.0, in_up_to n h.0 vs c h.1 k (omega (arith, h.2, le)), h.2)

-- an end of a list is one of a longer list
pub ends_more : (n : ℕ) (vs ws : List (List ℕ)) → EndsAt n vs → IsPrefix vs ws → EndsAt n ws
ends_more n vs ws h p = (h.0, prefix_trans h.0 vs ws h.1 p, h.2)

end_rest : (m : ℕ) (xs ys : List (List ℕ)) → IsConsecutive m (xs ++ ys) → end_from m xs ≤ end_from m (xs ++ ys)
end_rest m [] ys d = end_above m ys d
end_rest m (x ∷ xs) ys d = end_rest (last_of x + 1) xs ys d.1

-- a beginning ends at or below the list's end
pub prefix_end : (xs vs : List (List ℕ)) → IsConsecutive 0 vs → IsPrefix xs vs → end_of xs ≤ end_of vs
prefix_end xs vs c p =
    let c2 = subst (λ (w : List (List ℕ)). IsConsecutive 0 w) (sym (p.1)) c in
    omega (arith, end_rest 0 xs p.0 c2, ap end_of (p.1))

-- an end is at or below the list's end
pub ends_below : (n : ℕ) (vs : List (List ℕ)) → IsConsecutive 0 vs → EndsAt n vs → n ≤ end_of vs
ends_below n vs c h = omega (arith, prefix_end h.0 vs c h.1, h.2)

-- 0 is an end
pub ends_at_zero : (vs : List (List ℕ)) → EndsAt 0 vs
ends_at_zero vs = ([], (vs, refl), refl)

-- the list's end is one
pub ends_at_end : (vs : List (List ℕ)) → EndsAt (end_of vs) vs
ends_at_end vs = (vs, prefix_self vs, refl)
