-- Partitions in rising order: one more among them, and what their order reports.
use Rattle.std.specs.Prelude.{◌≡◌, ◌⊎◌, ◌↔◌, ℕ, ◌<◌, List, [], ◌∷◌, ◌++◌, refl}
use Rattle.std.proofs.Common.{◌∙◌, sym, ap, subst, inl, inr, ⊎_elim, arith}
use Rattle.std.specs.declared.cmp.Ordering.{Ordering}
use Rattle.std.specs.declared.cmp.Ordering.TheVariants.{Less, Equal, Greater}
use Rattle.std.specs.Ordering.{nat_cmp, match_ordering}
use Rattle.std.specs.List.Sorted.{IsStrictlySortedBy}
use Rattle.std.specs.List.{AllByRecursion}
use Rattle.std.specs.BTreeSet.{insert_key}
use Rattle.std.proofs.lemmas.Map.Lookups.{exact_unsigned}
use Rattle.tier_base.specs.declared.names.PartitionId.{PartitionId}
use Rattle.tier_base.specs.contracts.names.PartitionIdOrd.TheImpl as id_ord
use Rattle.tier_base.specs.Told.{In}
use Rattle.device_yard.specs.YardContent.{Rise}

-- the order of partitions
abbrev id_cmp : PartitionId → PartitionId → Ordering
id_cmp = (id_ord.ghosts).cmp

-- it is that of their numbers
cmp_is : (p q : PartitionId) → id_cmp p q ≡ nat_cmp p.0 q.0
cmp_is p q = refl

same : (p q : PartitionId) → nat_cmp p.0 q.0 ≡ Equal → p ≡ q
same p q e = let id : ℕ → PartitionId = λ n. record { 0 = n } in ap id (exact_unsigned p.0 q.0 e)

below : (m n : ℕ) → nat_cmp m n ≡ Less → m < n
below m n e = grind (arith)

-- one more among them
insert_step : (o : Ordering) (q x : PartitionId) (xs more : List PartitionId) → (o ≡ Equal → q ≡ x) → ((p : PartitionId) → In p more ↔ (In p xs ⊎ (p ≡ q)))
    → (p : PartitionId) → In p (match_ordering o (q ∷ x ∷ xs) (x ∷ xs) (x ∷ more)) ↔ (In p (x ∷ xs) ⊎ (p ≡ q))
insert_step Less q x xs more is rest p = (λ h. ⊎_elim (λ e. inr e) (λ old. inl old) h, λ h. ⊎_elim (λ old. inr old) (λ e. inl e) h)
insert_step Equal q x xs more is rest p = (λ h. inl h, λ h. ⊎_elim (λ old. old) (λ e. inl (e ∙ is refl)) h)
insert_step Greater q x xs more is rest p = (
  λ h. ⊎_elim (λ e. inl (inl e)) (λ m. ⊎_elim (λ old. inl (inr old)) (λ e. inr e) ((rest p).0 m)) h,
  λ h. ⊎_elim (λ old. ⊎_elim (λ e. inl e) (λ more. inr ((rest p).1 (inl more))) old) (λ e. inr ((rest p).1 (inr e))) h,
)

pub inserted : (xs : List PartitionId) (q p : PartitionId) → In p (insert_key id_cmp xs q) ↔ (In p xs ⊎ (p ≡ q))
inserted [] q p = (λ h. ⊎_elim (λ e. inr e) (λ no. absurd no) h, λ h. ⊎_elim (λ no. absurd no) (λ e. inl e) h)
inserted (x ∷ xs) q p = insert_step (nat_cmp q.0 x.0) q x xs (insert_key id_cmp xs q) (same q x) (λ r. inserted xs q r) p

-- each is below all after it, since the keys of a set ascend
all_above : (p q : PartitionId) (xs : List PartitionId) → AllByRecursion (λ y. id_cmp p y ≡ Less) xs → In q xs → p.0 < q.0
all_above p q [] all h = absurd h
all_above p q (x ∷ xs) all (inl e) = subst (λ y. p.0 < y.0) (sym e) (below p.0 x.0 all.0)
all_above p q (x ∷ xs) all (inr more) = all_above p q xs all.1 more

rising : (xs : List PartitionId) → IsStrictlySortedBy id_cmp xs → Rise xs
unfolding IsStrictlySortedBy
rising [] sorted = tt
rising (x ∷ xs) sorted = (λ q h. all_above x q xs sorted.0 h, rising xs sorted.1)

in_front : (q : PartitionId) (xs ys : List PartitionId) → In q xs → In q (xs ++ ys)
in_front q [] ys h = absurd h
in_front q (x ∷ xs) ys (inl e) = inl e
in_front q (x ∷ xs) ys (inr more) = inr (in_front q xs ys more)

rise_front : (xs ys : List PartitionId) → Rise (xs ++ ys) → Rise xs
rise_front [] ys h = tt
rise_front (x ∷ xs) ys h = (λ q more. h.0 q (in_front q xs ys more), rise_front xs ys h.1)

-- those that were taken so far rise
pub rise_taken : (told keys row rest : List PartitionId) → keys ≡ told → row ++ rest ≡ told → IsStrictlySortedBy id_cmp keys → Rise row
rise_taken told keys row rest view taken sorted = rise_front row rest (subst Rise (view ∙ sym taken) (rising keys sorted))
