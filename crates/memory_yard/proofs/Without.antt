-- The partitions of a list that aren't in another one, one after another.
use Rattle.std.specs.Prelude.{◌≡◌, ◌⊎◌, ◌↔◌, ℕ, zero, suc, ◌+◌, ◌<◌, ◌≤◌, ◌==◌, ◌||◌, length, Bool, true, false, List, [], ◌∷◌, ◌++◌, slice_get, Some, IsTrue, refl}
use Rattle.std.specs.List.{list_any}
use Rattle.std.proofs.Common.{◌∙◌, sym, ap, subst, inl, inr, ⊎_elim, arith}
use Rattle.std.proofs.lemmas.Bool.Decides.{eqb_tells, Decides-eqb}
use Rattle.std.proofs.lemmas.Bool.{false≢true}
use Rattle.std.proofs.lemmas.Option.{slice_get_within}
use Rattle.tier_base.specs.declared.names.PartitionId.{PartitionId}
use Rattle.tier_base.specs.Told.{In}
use Rattle.memory_yard.specs.First.{AreWithout, PushesUnless}

-- it is one of the first n
abbrev pub Below : List PartitionId → ℕ → PartitionId → Type 0
Below list n p = (k : ℕ) × (k < n) × (slice_get list k ≡ Some p)

-- the row has those of the first n that aren't in the others
abbrev pub Passed : List PartitionId → List PartitionId → ℕ → List PartitionId → Type 0
Passed list others n row = (p : PartitionId) → In p row ↔ (Below list n p × (In p others → ⊥))

some_is : {A : Type 0} → (x y : A) → Some x ≡ Some y → x ≡ y
some_is x y e = cc

in_snoc : (p x : PartitionId) (row : List PartitionId) → In p (row ++ x ∷ []) ↔ (In p row ⊎ (p ≡ x))
in_snoc p x [] = (λ h. ⊎_elim (λ e. inr e) (λ no. absurd no) h, λ h. ⊎_elim (λ no. absurd no) (λ e. inl e) h)
in_snoc p x (y ∷ row) = let rest = in_snoc p x row in (
  λ h. ⊎_elim (λ e. inl (inl e)) (λ m. ⊎_elim (λ old. inl (inr old)) (λ e. inr e) (rest.0 m)) h,
  λ h. ⊎_elim (λ old. ⊎_elim (λ e. inl e) (λ m. inr (rest.1 (inl m))) old) (λ e. inr (rest.1 (inr e))) h,
)

below_split : (list : List PartitionId) (n : ℕ) (x p : PartitionId) → slice_get list n ≡ Some x → Below list (n + 1) p → Below list n p ⊎ (p ≡ x)
below_split list n x p e h =
    ⊎_elim
    (λ yes. inr (some_is p x (sym h.2 ∙ (ap (slice_get list) yes.1 ∙ e))))
    (λ no. let d : h.0 ≡ n → ⊥ = no.1 in let le : h.0 < n + 1 = h.1 in inl (h.0, omega arith, h.2))
    (eqb_tells h.0 n)

below_more : (list : List PartitionId) (n : ℕ) (p : PartitionId) → Below list n p → Below list (n + 1) p
below_more list n p h = let le : h.0 < n = h.1 in (h.0, omega arith, h.2)

below_last : (list : List PartitionId) (n : ℕ) (x p : PartitionId) → slice_get list n ≡ Some x → p ≡ x → Below list (n + 1) p
below_last list n x p e is = (n, omega arith, e ∙ ap Some (sym is))

pub passed_none : (list others : List PartitionId) → Passed list others 0 []
passed_none list others p = (λ no. absurd no, λ h. let le : h.0.0 < 0 = h.0.1 in absurd (omega arith))

-- one more that isn't in the others
pub passed_more : (list others row row' : List PartitionId) (n : ℕ) (x : PartitionId) → slice_get list n ≡ Some x → (In x others → ⊥) → row' ≡ row ++ x ∷ []
    → Passed list others n row → Passed list others (n + 1) row'
passed_more list others row row' n x e other is h p = (
  λ there. ⊎_elim
      (λ old. let both = (h p).0 old in (below_more list n p both.0, both.1))
      (λ new. (below_last list n x p e new, λ one. other (subst (λ q. In q others) new one)))
      ((in_snoc p x row).0 (subst (In p) is there)),
  λ both. subst (In p) (sym is) ((in_snoc p x row).1 (⊎_elim (λ old. inl ((h p).1 (old, both.1))) (λ new. inr new) (below_split list n x p e both.0))),
)

-- one more that is
pub passed_over : (list others row : List PartitionId) (n : ℕ) (x : PartitionId) → slice_get list n ≡ Some x → In x others → Passed list others n row → Passed list others (n + 1) row
passed_over list others row n x e one h p = (
  λ there. let both = (h p).0 there in (below_more list n p both.0, both.1),
  λ both. ⊎_elim (λ old. (h p).1 (old, both.1)) (λ new. absurd (both.1 (subst (λ q. In q others) (sym new) one))) (below_split list n x p e both.0),
)

in_at : (p : PartitionId) (list : List PartitionId) → In p list → (k : ℕ) × (slice_get list k ≡ Some p)
in_at p [] h = absurd h
in_at p (x ∷ list) (inl e) = (0, ap Some (sym e))
in_at p (x ∷ list) (inr h) = let r = in_at p list h in (suc r.0, r.1)

at_in : (p : PartitionId) (list : List PartitionId) (k : ℕ) → slice_get list k ≡ Some p → In p list
at_in p [] k e = absurd cc
at_in p (x ∷ list) zero e = inl (sym (some_is x p e))
at_in p (x ∷ list) (suc k) e = inr (at_in p list k e)

-- all were passed
pub passed_all : (list others row : List PartitionId) (n : ℕ) → length list ≤ n → Passed list others n row → AreWithout list others row
passed_all list others row n le h p = (
  λ there. let both = (h p).0 there in (at_in p list both.0.0 both.0.2, both.1),
  λ both. let r = in_at p list both.0 in let w : r.0 < length list = slice_get_within list r.0 p r.1 in (h p).1 ((r.0, omega arith, r.1), both.1),
)

-- one more, as it is pushed or not
pub passed_either : (list others row row' : List PartitionId) (n : ℕ) (x : PartitionId) → slice_get list n ≡ Some x → PushesUnless others x row row'
    → Passed list others n row → Passed list others (n + 1) row'
passed_either list others row row' n x e (inl over) h = subst (Passed list others (n + 1)) (sym over.1) (passed_over list others row n x e over.0 h)
passed_either list others row row' n x e (inr more) h = passed_more list others row row' n x e more.0 more.1 h

same_partition : (p q : PartitionId) → p.0 ≡ q.0 → p ≡ q
same_partition p q e = let id : ℕ → PartitionId = λ n. record { 0 = n } in ap id e

one_more : (b : Bool) (x q : PartitionId) (rest : Bool) (list : List PartitionId) → (x.0 == q.0) ≡ b → IsTrue rest ↔ In q list → IsTrue (b || rest) ↔ In q (x ∷ list)
one_more true x q rest list e h = (λ t. inl (sym (same_partition x q ((Decides-eqb x.0 q.0).0 e))), λ h. refl)
one_more false x q rest list e h = (
  λ t. inr (h.0 t),
  λ there. ⊎_elim
      (λ is. absurd (false≢true (sym e ∙ (Decides-eqb x.0 q.0).1 (ap (λ (p : PartitionId). p.0) (sym is)))))
      (λ more. h.1 more)
      there,
)

-- a search by numbers finds what is there
pub any_in : (list : List PartitionId) (q : PartitionId) → IsTrue (list_any (λ y. y.0 == q.0) list) ↔ In q list
any_in [] q = (λ t. absurd (false≢true t), λ h. absurd h)
any_in (x ∷ list) q = one_more (x.0 == q.0) x q (list_any (λ y. y.0 == q.0) list) list refl (any_in list q)
