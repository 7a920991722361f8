-- A loop over slots that finds the partitions of those it has passed.
use Rattle.std.specs.Prelude.{◌≡◌, ◌⊎◌, ℕ, zero, suc, ◌+◌, ◌<◌, ◌≤◌, length, List, [], ◌∷◌, ◌++◌, take, drop, slice_get, slice_set, Option, Some, None, IsSomeAnd, refl}
use Rattle.std.proofs.Common.{◌∙◌, sym, ap, subst, inl, inr, ⊎_elim, arith}
use Rattle.std.proofs.lemmas.Bool.Decides.{eqb_tells}
use Rattle.std.proofs.Math.Seq.{take-append_seam}
use Rattle.tier_base.specs.declared.names.PartitionId.{PartitionId}
use Rattle.device_yard.specs.YardContent.{Both}
use Rattle.memory_yard.specs.declared.slot.Slot.{Slot}
use Rattle.memory_yard.specs.Found.{Adds}
use Rattle.memory_yard.specs.Shelf.{SlotKeeps, AreStill, IsPartitionOf, IsPartitionBelow}
use Rattle.memory_yard.proofs.Finds.{adds_same, adds_then, adds_none}

-- what is read after a write
set_same : {A : Type 0} → (xs : List A) (i : ℕ) (x y : A) → slice_get xs i ≡ Some x → slice_get (slice_set xs i y) i ≡ Some y
set_same [] i x y e = absurd cc
set_same (z ∷ xs) zero x y e = refl
set_same (z ∷ xs) (suc i) x y e = set_same xs i x y e

set_other : {A : Type 0} → (xs : List A) (i k : ℕ) (y : A) → (k ≡ i → ⊥) → slice_get (slice_set xs i y) k ≡ slice_get xs k
set_other [] i k y n = refl
set_other (z ∷ xs) zero zero y n = absurd (n refl)
set_other (z ∷ xs) zero (suc k) y n = refl
set_other (z ∷ xs) (suc i) zero y n = refl
set_other (z ∷ xs) (suc i) (suc k) y n = set_other xs i k y (λ e. n (ap suc e))

both_itself : {A : Type 0} → (R : A → A → Type 0) → ((a : A) → R a a) → (o : Option A) → Both R o o
both_itself R r None = tt
both_itself R r (Some a) = r a

module _ {K T : Type 0} (keeps : T → T → Type 0) where
  slot_itself : ((d : T) → keeps d d) → (s : Slot K T) → SlotKeeps keeps s s
  slot_itself r s = record { place = refl; device = both_itself keeps r s.device }

  pub still_itself : ((d : T) → keeps d d) → (slots : List (Slot K T)) → AreStill keeps slots slots
  still_itself r slots i = both_itself (SlotKeeps keeps) (slot_itself r) (slice_get slots i)

  -- there are as many as there were
  pub still_length : (old new : List (Slot K T)) → AreStill keeps old new → length new ≡ length old
  still_length [] [] h = refl
  still_length [] (y ∷ new) h = absurd (h 0)
  still_length (x ∷ old) [] h = absurd (h 0)
  still_length (x ∷ old) (y ∷ new) h = ap suc (still_length old new (λ i. h (suc i)))

  -- one more slot was passed
  pub still_set : (old now : List (Slot K T)) (i : ℕ) (s n : Slot K T) → AreStill keeps old now → ((k : ℕ) → i ≤ k → slice_get now k ≡ slice_get old k)
      → slice_get now i ≡ Some s → SlotKeeps keeps s n → AreStill keeps old (slice_set now i n)
  still_set old now i s n still rest e h k =
      ⊎_elim
      (λ yes.
      let old_is : slice_get old k ≡ Some s = ap (slice_get old) yes.1 ∙ (sym (rest i (omega arith)) ∙ e) in
      let new_is : slice_get (slice_set now i n) k ≡ Some n = ap (slice_get (slice_set now i n)) yes.1 ∙ set_same now i s n e in
      subst (λ o. Both (SlotKeeps keeps) o (slice_get (slice_set now i n) k)) (sym old_is)
      (subst (λ o. Both (SlotKeeps keeps) (Some s) o) (sym new_is) h))
      (λ no. subst (λ o. Both (SlotKeeps keeps) (slice_get old k) o) (sym (set_other now i k n no.1)) (still k))
      (eqb_tells k i)

  pub rest_set : (old now : List (Slot K T)) (i : ℕ) (n : Slot K T) → ((k : ℕ) → i ≤ k → slice_get now k ≡ slice_get old k)
      → (k : ℕ) → i + 1 ≤ k → slice_get (slice_set now i n) k ≡ slice_get old k
  rest_set old now i n rest k le = set_other now i k n (λ e. absurd (omega arith)) ∙ rest k (omega arith)

-- a number is below another, or is at least that
below_or_past : (k i : ℕ) → (k < i) ⊎ (i ≤ k)
below_or_past k zero = inr (omega arith)
below_or_past zero (suc i) = inl (omega arith)
below_or_past (suc k) (suc i) = ⊎_elim (λ below. inl (omega (arith, below))) (λ past. inr (omega (arith, past))) (below_or_past k i)

-- there is nothing past the end
none_past : {A : Type 0} → (xs : List A) (k : ℕ) → length xs ≤ k → slice_get xs k ≡ None
none_past [] k le = refl
none_past (x ∷ xs) zero le = absurd (omega (arith, le))
none_past (x ∷ xs) (suc k) le = none_past xs k (omega (arith, le))

-- a loop that changes each slot
module _ {K T : Type 0} (changes : T → T → Type 0) where
  -- one more slot was passed
  pub passed_set : (old now : List (Slot K T)) (i : ℕ) (s n : Slot K T) → ((k : ℕ) → k < i → Both (SlotKeeps changes) (slice_get old k) (slice_get now k))
      → ((k : ℕ) → i ≤ k → slice_get now k ≡ slice_get old k) → slice_get now i ≡ Some s → SlotKeeps changes s n
      → (k : ℕ) → k < i + 1 → Both (SlotKeeps changes) (slice_get old k) (slice_get (slice_set now i n) k)
  passed_set old now i s n done rest e h k below =
      ⊎_elim
      (λ yes.
      let old_is : slice_get old k ≡ Some s = ap (slice_get old) yes.1 ∙ (sym (rest i (omega arith)) ∙ e) in
      let new_is : slice_get (slice_set now i n) k ≡ Some n = ap (slice_get (slice_set now i n)) yes.1 ∙ set_same now i s n e in
      subst (λ o. Both (SlotKeeps changes) o (slice_get (slice_set now i n) k)) (sym old_is)
      (subst (λ o. Both (SlotKeeps changes) (Some s) o) (sym new_is) h))
      (λ no.
      let other : k ≡ i → ⊥ = no.1 in
      subst (λ o. Both (SlotKeeps changes) (slice_get old k) o) (sym (set_other now i k n other)) (done k (omega (arith, below))))
      (eqb_tells k i)

  -- all of them were
  pub passed_all : (old now : List (Slot K T)) (i : ℕ) → i ≡ length old → ((k : ℕ) → k < i → Both (SlotKeeps changes) (slice_get old k) (slice_get now k))
      → ((k : ℕ) → i ≤ k → slice_get now k ≡ slice_get old k) → AreStill changes old now
  passed_all old now i end done rest k =
      ⊎_elim
      (λ below. done k below)
      (λ past.
      let none : slice_get old k ≡ None = none_past old k (omega (arith, end, past)) in
      subst (λ o. Both (SlotKeeps changes) (slice_get old k) o) (sym (rest k past))
      (subst (λ o. Both (SlotKeeps changes) o o) (sym none) tt))
      (below_or_past k i)

module _ {K T : Type 0} (partition_of : K → PartitionId) (used : T → Type 0) where
  below_split : (slots : List (Slot K T)) (i : ℕ) (s : Slot K T) (p : PartitionId) → slice_get slots i ≡ Some s
      → IsPartitionBelow partition_of used (i + 1) slots p → IsPartitionBelow partition_of used i slots p ⊎ IsPartitionOf partition_of used s p
  below_split slots i s p e h =
      ⊎_elim
      (λ yes. inr (subst (λ o. IsSomeAnd o (λ x. IsPartitionOf partition_of used x p)) (ap (slice_get slots) yes.1 ∙ e) h.2))
      (λ no. let d : h.0 ≡ i → ⊥ = no.1 in let le : h.0 < i + 1 = h.1 in inl (h.0, omega arith, h.2))
      (eqb_tells h.0 i)

  below_join : (slots : List (Slot K T)) (i : ℕ) (s : Slot K T) (p : PartitionId) → slice_get slots i ≡ Some s
      → IsPartitionBelow partition_of used i slots p ⊎ IsPartitionOf partition_of used s p → IsPartitionBelow partition_of used (i + 1) slots p
  below_join slots i s p e (inl h) = let le : h.0 < i = h.1 in (h.0, omega arith, h.2)
  below_join slots i s p e (inr h) = (i, omega arith, subst (λ o. IsSomeAnd o (λ x. IsPartitionOf partition_of used x p)) (sym e) h)

  pub found_more : (slots : List (Slot K T)) (i : ℕ) (s : Slot K T) (o a b : List PartitionId) → slice_get slots i ≡ Some s
      → Adds (IsPartitionBelow partition_of used i slots) o a → Adds (IsPartitionOf partition_of used s) a b
      → Adds (IsPartitionBelow partition_of used (i + 1) slots) o b
  found_more slots i s o a b e h k =
      adds_same _ _ o b (λ p. below_join slots i s p e) (λ p. below_split slots i s p e)
      (adds_then (IsPartitionBelow partition_of used i slots) (IsPartitionOf partition_of used s) o a b h k)

  pub found_none : (slots : List (Slot K T)) (o : List PartitionId) → Adds (IsPartitionBelow partition_of used 0 slots) o o
  found_none slots o = adds_none (IsPartitionBelow partition_of used 0 slots) o (λ p h. let le : h.0 < 0 = h.1 in absurd (omega arith))

  pub found_all : (slots : List (Slot K T)) (i : ℕ) (o a : List PartitionId) → length slots ≤ i → i ≤ length slots
      → Adds (IsPartitionBelow partition_of used i slots) o a → Adds (IsPartitionBelow partition_of used (length slots) slots) o a
  found_all slots i o a le ge h = let e : i ≡ length slots = omega arith in subst (λ n. Adds (IsPartitionBelow partition_of used n slots) o a) e h

-- a slice of a whole vector that was written
pub whole : {A : Type 0} → (items new : List A) (len : ℕ) → len ≡ length items → length new ≡ length items → take len (new ++ drop (length new) items) ≡ new
whole items new len e f =
    subst (λ n. take n (new ++ drop (length new) items) ≡ new) (f ∙ sym e) (take-append_seam new (drop (length new) items))
