-- Slots of distinct places: what is at a place after one of them has changed, or one was added.
use Rattle.std.specs.Prelude.{◌≡◌, ◌⊎◌, ℕ, zero, suc, ◌<◌, length, Bool, true, false, List, [], ◌∷◌, ◌++◌, slice_get, slice_set, Option, Some, None, Ok, Err, OnOk, IsSomeAnd, refl}
use Rattle.std.proofs.Common.{◌∙◌, sym, ap, subst, inl, inr, ⊎_elim, arith, Decides, get_or}
use Rattle.std.proofs.lemmas.Bool.{false≢true}
use Rattle.std.specs.declared.result.Result.{Result}
use Rattle.std.proofs.lemmas.Option.{slice_get_within, slice_get_read}
use Rattle.tier_base.specs.declared.names.PartitionId.{PartitionId}
use Rattle.device_yard.specs.YardContent.{IsThereWith, Both}
use Rattle.memory_yard.specs.declared.slot.Slot.{Slot}
use Rattle.memory_yard.specs.Found.{Adds}
use Rattle.memory_yard.specs.Shelf.{at, AreSlotsDistinct, IsAbsentBelow, IsSlotOf, LeavesPlace, SlotKeeps, AreStill, IsPartitionOf, IsPartitionBelow, IsPartitionOn}
use Rattle.memory_yard.proofs.Finds.{adds_same}

some_is : {A : Type 0} → (x y : A) → Some x ≡ Some y → x ≡ y
some_is x y e = cc

bool_cases : (b : Bool) → (b ≡ true) ⊎ (b ≡ false)
bool_cases true = inl refl
bool_cases false = inr refl

both_same : {K T : Type 0} → (o : Option (Slot K T)) → Both (λ a b. b.place ≡ a.place) o o
both_same None = tt
both_same (Some s) = refl

module _ {K : Type 0} (same : K → K → Bool) (decides : (a b : K) → Decides (same a b) (a ≡ b)) where
  -- a place is its own
  same_itself : (a : K) → same a a ≡ true
  same_itself a = (decides a a).1 refl

  -- and no other's
  not_same : (a b : K) → (a ≡ b → ⊥) → same a b ≡ false
  not_same a b n = ⊎_elim (λ yes. absurd (n ((decides a b).0 yes))) (λ no. no) (bool_cases (same a b))

module _ {K T : Type 0} (same : K → K → Bool) (decides : (a b : K) → Decides (same a b) (a ≡ b)) where
  -- one more slot in front
  at_there : (p q : K) (d : Option T) (slots : List (Slot K T)) → same p q ≡ true → at same q (record { place = p; device = d } ∷ slots) ≡ d
  at_there p q d slots e = rw e

  at_behind : (p q : K) (d : Option T) (slots : List (Slot K T)) → same p q ≡ false → at same q (record { place = p; device = d } ∷ slots) ≡ at same q slots
  at_behind p q d slots e = rw e

  distinct_behind : (x : Slot K T) (slots : List (Slot K T)) → AreSlotsDistinct same (x ∷ slots) → AreSlotsDistinct same slots
  distinct_behind x slots h i j a b e f s = let r : suc i ≡ suc j = h (suc i) (suc j) a b e f s in omega arith

  -- the first of distinct slots isn't of a later one's place
  not_first : (x s : Slot K T) (slots : List (Slot K T)) (i : ℕ) (place : K) → AreSlotsDistinct same (x ∷ slots) → slice_get slots i ≡ Some s
      → s.place ≡ place → same x.place place ≡ false
  not_first x s slots i place h e is =
      not_same same decides x.place place (λ p. let r : 0 ≡ suc i = h 0 (suc i) x s refl e ((decides x.place s.place).1 (p ∙ sym is)) in absurd (omega arith))

  -- the device of a slot is at its place
  pub at_slot : (slots : List (Slot K T)) (i : ℕ) (s : Slot K T) (place : K) → AreSlotsDistinct same slots → slice_get slots i ≡ Some s → s.place ≡ place → at same place slots ≡ s.device
  at_slot [] i s place h e is = absurd cc
  at_slot (x ∷ slots) zero s place h e is =
      let xs : x ≡ s = some_is x s e in
      at_there x.place place x.device slots ((decides x.place place).1 (ap (λ y. y.place) xs ∙ is)) ∙ ap (λ y. y.device) xs
  at_slot (x ∷ slots) (suc i) s place h e is =
      at_behind x.place place x.device slots (not_first x s slots i place h e is) ∙ at_slot slots i s place (distinct_behind x slots h) e is

  -- where none has the place there is nothing there
  pub at_absent : (slots : List (Slot K T)) (place : K) → ((n : ℕ) → IsAbsentBelow same n place slots) → at same place slots ≡ None
  at_absent [] place h = refl
  at_absent (x ∷ slots) place h =
      at_behind x.place place x.device slots (h 1 0 x (omega arith) refl)
      ∙ at_absent slots place (λ n i s below e. h (suc n) (suc i) s (omega arith) e)

  -- a slot's device is another one now, or none
  pub set_leaves : (slots : List (Slot K T)) (i : ℕ) (s : Slot K T) (place : K) (now : Option T) → AreSlotsDistinct same slots → slice_get slots i ≡ Some s → s.place ≡ place
      → LeavesPlace same place now slots (slice_set slots i (record { place = s.place; device = now }))
  set_leaves [] i s place now h e is = absurd cc
  set_leaves (x ∷ slots) zero s place now h e is = record {
    there = at_there s.place place now slots ((decides s.place place).1 is);
    others = λ q other.
        let xs : x ≡ s = some_is x s e in
        let away : same s.place q ≡ false = not_same same decides s.place q (λ p. other (sym p ∙ is)) in
        let before : same x.place q ≡ false = not_same same decides x.place q (λ p. other (sym p ∙ (ap (λ y. y.place) xs ∙ is))) in
        at_behind s.place q now slots away ∙ sym (at_behind x.place q x.device slots before);
  }
  set_leaves (x ∷ slots) (suc i) s place now h e is =
      let rest = set_leaves slots i s place now (distinct_behind x slots h) e is in
      let set : List (Slot K T) = slice_set slots i (record { place = s.place; device = now }) in
      record {
        there = at_behind x.place place x.device set (not_first x s slots i place h e is) ∙ rest.there;
        others = λ q other.
            ⊎_elim
            (λ yes. at_there x.place q x.device set yes ∙ sym (at_there x.place q x.device slots yes))
            (λ no. at_behind x.place q x.device set no ∙ (rest.others q other ∙ sym (at_behind x.place q x.device slots no)))
            (bool_cases (same x.place q));
      }

  -- a slot of a new place is added
  pub push_leaves : (slots : List (Slot K T)) (place : K) (device : T) → ((n : ℕ) → IsAbsentBelow same n place slots)
      → LeavesPlace same place (Some device) slots (slots ++ record { place = place; device = Some device } ∷ [])
  push_leaves [] place device h = record {
    there = at_there place place (Some device) [] (same_itself same decides place);
    others = λ q other. at_behind place q (Some device) [] (not_same same decides place q (λ p. other (sym p)));
  }
  push_leaves (x ∷ slots) place device h =
      let rest = push_leaves slots place device (λ n i s below e. h (suc n) (suc i) s (omega arith) e) in
      let more : List (Slot K T) = slots ++ record { place = place; device = Some device } ∷ [] in
      record {
        there = at_behind x.place place x.device more (h 1 0 x (omega arith) refl) ∙ rest.there;
        others = λ q other.
            ⊎_elim
            (λ yes. at_there x.place q x.device more yes ∙ sym (at_there x.place q x.device slots yes))
            (λ no. at_behind x.place q x.device more no ∙ (rest.others q other ∙ sym (at_behind x.place q x.device slots no)))
            (bool_cases (same x.place q));
      }

  -- each slot of a longer list is one of before, or the new one at its end
  pushed_slot : (slots : List (Slot K T)) (n s : Slot K T) (i : ℕ) → slice_get (slots ++ n ∷ []) i ≡ Some s → (slice_get slots i ≡ Some s) ⊎ ((s ≡ n) × (i ≡ length slots))
  pushed_slot [] n s zero e = inr (sym (some_is n s e), refl)
  pushed_slot [] n s (suc i) e = absurd cc
  pushed_slot (x ∷ slots) n s zero e = inl e
  pushed_slot (x ∷ slots) n s (suc i) e = ⊎_elim (λ was. inl was) (λ is. inr (is.0, ap suc is.1)) (pushed_slot slots n s i e)

  pub push_distinct : (slots : List (Slot K T)) (n : Slot K T) → ((k : ℕ) → IsAbsentBelow same k n.place slots) → AreSlotsDistinct same slots → AreSlotsDistinct same (slots ++ n ∷ [])
  push_distinct slots n absent h i j a b e f s =
      let ab : a.place ≡ b.place = (decides a.place b.place).0 s in
      let none : (k : ℕ) (c : Slot K T) → slice_get slots k ≡ Some c → c.place ≡ n.place → ⊥ =
      λ k c g is. false≢true (sym (absent (suc k) k c (omega arith) g) ∙ (decides c.place n.place).1 is) in
      ⊎_elim
      (λ p. ⊎_elim (λ q. h i j a b p q s) (λ q. absurd (none i a p (ab ∙ ap (λ y. y.place) q.0))) (pushed_slot slots n b j f))
      (λ p. ⊎_elim (λ q. absurd (none j b q (sym ab ∙ ap (λ y. y.place) p.0))) (λ q. p.1 ∙ sym q.1) (pushed_slot slots n b j f))
      (pushed_slot slots n a i e)

  -- each slot keeps its place
  was_there : (old new : List (Slot K T)) (i : ℕ) (b : Slot K T) (o n : Option (Slot K T)) → slice_get old i ≡ o → n ≡ Some b → Both (λ a b. b.place ≡ a.place) o n
      → (a : Slot K T) × (slice_get old i ≡ Some a) × (b.place ≡ a.place)
  was_there old new i b None None e f h = absurd cc
  was_there old new i b None (Some y) e f h = absurd h
  was_there old new i b (Some x) None e f h = absurd h
  was_there old new i b (Some x) (Some y) e f h = (x, e, ap (λ s. s.place) (sym (some_is y b f)) ∙ h)

  pub kept_distinct : (old new : List (Slot K T)) → ((i : ℕ) → Both (λ a b. b.place ≡ a.place) (slice_get old i) (slice_get new i)) → AreSlotsDistinct same old → AreSlotsDistinct same new
  kept_distinct old new still h i j a b e f s =
      let x = was_there old new i a (slice_get old i) (slice_get new i) refl e (still i) in
      let y = was_there old new j b (slice_get old j) (slice_get new j) refl f (still j) in
      h i j x.0 y.0 x.1 y.1 ((decides x.0.place y.0.place).1 (sym x.2 ∙ ((decides a.place b.place).0 s ∙ y.2)))

  -- a slot whose device has changed
  pub set_keeps : (slots : List (Slot K T)) (i : ℕ) (s : Slot K T) (now : Option T) → slice_get slots i ≡ Some s
      → (k : ℕ) → Both (λ a b. b.place ≡ a.place) (slice_get slots k) (slice_get (slice_set slots i (record { place = s.place; device = now })) k)
  set_keeps [] i s now e k = absurd cc
  set_keeps (x ∷ slots) zero s now e zero = ap (λ y. y.place) (sym (some_is x s e))
  set_keeps (x ∷ slots) zero s now e (suc k) = both_same (slice_get slots k)
  set_keeps (x ∷ slots) (suc i) s now e zero = refl
  set_keeps (x ∷ slots) (suc i) s now e (suc k) = set_keeps slots i s now e k

  -- where the slots keep their devices' content, so do the places
  module _ (keeps : T → T → Type 0) where
    still_places : (o n : Option (Slot K T)) → Both (SlotKeeps keeps) o n → Both (λ a b. b.place ≡ a.place) o n
    still_places None None h = tt
    still_places None (Some y) h = h
    still_places (Some x) None h = h
    still_places (Some x) (Some y) h = h.place

    pub still_distinct : (old new : List (Slot K T)) → AreStill keeps old new → AreSlotsDistinct same old → AreSlotsDistinct same new
    still_distinct old new still = kept_distinct old new (λ i. still_places (slice_get old i) (slice_get new i) (still i))

    pub still_at : (old new : List (Slot K T)) → AreStill keeps old new → (q : K) → Both keeps (at same q old) (at same q new)
    still_at [] [] h q = tt
    still_at [] (y ∷ new) h q = absurd (h 0)
    still_at (x ∷ old) [] h q = absurd (h 0)
    still_at (x ∷ old) (y ∷ new) h q =
        let first : SlotKeeps keeps x y = h 0 in
        let e : y.place ≡ x.place = first.place in
        ⊎_elim
        (λ yes.
        let a : at same q (x ∷ old) ≡ x.device = at_there x.place q x.device old yes in
        let b : at same q (y ∷ new) ≡ y.device = at_there y.place q y.device new (ap (λ p. same p q) e ∙ yes) in
        subst (λ m. Both keeps m (at same q (y ∷ new))) (sym a) (subst (λ m. Both keeps x.device m) (sym b) first.device))
        (λ no.
        let a : at same q (x ∷ old) ≡ at same q old = at_behind x.place q x.device old no in
        let b : at same q (y ∷ new) ≡ at same q new = at_behind y.place q y.device new (ap (λ p. same p q) e ∙ no) in
        subst (λ m. Both keeps m (at same q (y ∷ new))) (sym a)
        (subst (λ m. Both keeps (at same q old) m) (sym b) (still_at old new (λ i. h (suc i)) q)))
        (bool_cases (same x.place q))

  module _ (partition_of : K → PartitionId) (used : T → Type 0) where
    -- what is at a place is in one of the slots
    find_slot : (slots : List (Slot K T)) (q : K) → IsThereWith used (at same q slots) → (i : ℕ) × (s : Slot K T) × (slice_get slots i ≡ Some s) × (s.place ≡ q) × IsThereWith used s.device
    find_slot [] q has = absurd has
    find_slot (x ∷ slots) q has =
        ⊎_elim
        (λ yes. (0, x, refl, (decides x.place q).0 yes, subst (λ d. IsThereWith used d) (at_there x.place q x.device slots yes) has))
        (λ no.
        let r = find_slot slots q (subst (λ d. IsThereWith used d) (at_behind x.place q x.device slots no) has) in
        (suc r.0, r.1, r.2, r.3, r.4))
        (bool_cases (same x.place q))

    -- a partition on the shelf is that of one of its slots
    pub partition_in_slots : (slots : List (Slot K T)) (p : PartitionId) → IsPartitionOn partition_of used same slots p
        → IsPartitionBelow partition_of used (length slots) slots p
    partition_in_slots slots p h =
        let r = find_slot slots h.0 h.1 in (
          r.0,
          slice_get_within slots r.0 r.1 r.2,
          subst (λ o. IsSomeAnd o (λ s. IsPartitionOf partition_of used s p)) (sym r.2) (r.4, h.2 ∙ ap partition_of (sym r.3)),
        )

    on_shelf : (slots : List (Slot K T)) (p : PartitionId) (i : ℕ) (o : Option (Slot K T)) → AreSlotsDistinct same slots → slice_get slots i ≡ o
        → IsSomeAnd o (λ s. IsPartitionOf partition_of used s p) → IsPartitionOn partition_of used same slots p
    on_shelf slots p i None distinct e h = absurd h
    on_shelf slots p i (Some s) distinct e h = (s.place, subst (λ d. IsThereWith used d) (sym (at_slot slots i s s.place distinct e refl)) h.0, h.1)

    pub partition_on_shelf : (slots : List (Slot K T)) (n : ℕ) (p : PartitionId) → AreSlotsDistinct same slots → IsPartitionBelow partition_of used n slots p
        → IsPartitionOn partition_of used same slots p
    partition_on_shelf slots n p distinct h = on_shelf slots p h.0 (slice_get slots h.0) distinct refl h.2

-- what a search for a place's slot reports
module _ {K T : Type 0} (same : K → K → Bool) (decides : (a b : K) → Decides (same a b) (a ≡ b)) (told seen items : List (Slot K T)) (view : told ≡ items) (sees : seen ≡ items)
    (distinct : AreSlotsDistinct same items) (place : K) where
  found_slot : (i : ℕ) (s : Slot K T) → IsSlotOf same place seen (Some i) → s ≡ get_or items i s → (slice_get items i ≡ Some s) × (s.place ≡ place)
  found_slot i s found is =
      let within : i < length items = subst (λ xs. i < length xs) sees found.0 in
      let there : slice_get items i ≡ Some s = slice_get_read items (length items) i s refl within is in
      (there, (decides s.place place).0 (found.1 s (ap (λ xs. slice_get xs i) sees ∙ there)))

  pub found_at : (i : ℕ) (s : Slot K T) → IsSlotOf same place seen (Some i) → s ≡ get_or items i s → at same place told ≡ s.device
  found_at i s found is =
      let h = found_slot i s found is in
      ap (at same place) view ∙ at_slot same decides items i s place distinct h.0 h.1

  pub found_set : (i : ℕ) (s : Slot K T) (now : Option T) → IsSlotOf same place seen (Some i) → s ≡ get_or items i s
      → LeavesPlace same place now told (slice_set items i (record { place = s.place; device = now }))
  found_set i s now found is =
      let h = found_slot i s found is in
      subst (λ xs. LeavesPlace same place now xs (slice_set items i (record { place = s.place; device = now }))) (sym view)
      (set_leaves same decides items i s place now distinct h.0 h.1)

  absent_items : IsSlotOf same place seen None → (n : ℕ) → IsAbsentBelow same n place items
  absent_items absent n i s below e = absent n i s below (ap (λ xs. slice_get xs i) sees ∙ e)

  pub none_at : IsSlotOf same place seen None → at same place told ≡ None
  none_at absent = ap (at same place) view ∙ at_absent same decides items place (absent_items absent)

  pub none_stays : IsSlotOf same place seen None → LeavesPlace same place None told told
  none_stays absent = record { there = none_at absent; others = λ q other. refl }

  pub none_pushed : (d : T) (new : List (Slot K T)) → IsSlotOf same place seen None → new ≡ items ++ record { place = place; device = Some d } ∷ []
      → LeavesPlace same place (Some d) told new
  none_pushed d new absent e =
      subst (λ xs. LeavesPlace same place (Some d) xs new) (sym view)
      (subst (λ xs. LeavesPlace same place (Some d) items xs) (sym e) (push_leaves same decides items place d (absent_items absent)))

  pub none_distinct : (d : T) (new : List (Slot K T)) → IsSlotOf same place seen None → new ≡ items ++ record { place = place; device = Some d } ∷ [] → AreSlotsDistinct same new
  none_distinct d new absent e =
      subst (λ xs. AreSlotsDistinct same xs) (sym e)
      (push_distinct same decides items (record { place = place; device = Some d }) (absent_items absent) distinct)

-- the partitions of the slots are those of the shelf
pub found_on : {K T R E : Type 0} → (same : K → K → Bool) (decides : (a b : K) → Decides (same a b) (a ≡ b)) (partition_of : K → PartitionId) (used : T → Type 0)
    (told seen items : List (Slot K T)) → told ≡ items → seen ≡ items → AreSlotsDistinct same items → (o a : List PartitionId) (result : Result R E)
    → OnOk result (Adds (IsPartitionBelow partition_of used (length seen) seen) o a)
    → OnOk result (Adds (IsPartitionOn partition_of used same told) o a)
found_on same decides partition_of used told seen items view sees distinct o a (Err e) h = h
found_on same decides partition_of used told seen items view sees distinct o a (Ok x) h =
    let both : seen ≡ told = sees ∙ sym view in
    let d : AreSlotsDistinct same told = subst (λ xs. AreSlotsDistinct same xs) (sym view) distinct in
    let k : Adds (IsPartitionBelow partition_of used (length told) told) o a =
    subst (λ xs. Adds (IsPartitionBelow partition_of used (length xs) xs) o a) both h in
    adds_same _ _ o a
    (λ p. partition_on_shelf same decides partition_of used told (length told) p d)
    (λ p. partition_in_slots same decides partition_of used told p)
    k
