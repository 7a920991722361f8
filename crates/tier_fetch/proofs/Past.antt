-- The entries of an index past an offset, by their relative offsets.
use Rattle.std.proofs.Common.{zero, suc, ◌≡◌, ◌∙◌, ap, sym, refl, subst, ℕ, ◌+◌, ◌-◌, ◌<◌, ◌≤◌, List, [], ◌∷◌, Bool, true, false, not, cond, Option, Some, None, map, length, arith, get_or}
use Rattle.std.specs.Prelude.{nat_le, nat_lt, filter}
use Rattle.std.specs.List.{AllByRecursion}
use Rattle.std.specs.List.Sorted.{IsPartitionedBy}
use Rattle.std.proofs.lemmas.Bool.{leb-true, le-leb, lt-ltb}
use Rattle.std.proofs.lemmas.Bool.Decides.{nat_tests}
use Rattle.std.proofs.lemmas.Option.{same_Some}
use Rattle.sparse_index.specs.Entries.{last_of}
use Rattle.sparse_index.specs.Offsets.{OffsetTable, FitsEntry, Rises, AreOffsets, is_up_to, floor_of, place_of, find}
use Rattle.sparse_index.proofs.Chains.{chain-parted}

-- what stays of a list passes
passing : {X : Type 0} (p : X → Bool) (xs : List X) → AllByRecursion (λ x. p x ≡ true) (filter p xs)
passing p [] = tt
passing {X} p (x ∷ xs) = by (p x) refl (passing p xs)
  where
    by : (t : Bool) → p x ≡ t → AllByRecursion (λ y. p y ≡ true) (filter p xs) → AllByRecursion (λ y. p y ≡ true) (cond t (x ∷ filter p xs) (filter p xs))
    by true e rest = (e, rest)
    by false e rest = rest

-- so does the last of them
last-all : {X : Type 0} (P : X → Type 0) (xs : List X) (x : X) → AllByRecursion P xs → last_of xs ≡ Some x → P x
last-all P [] x all e = absurd (cc)
last-all P (y ∷ []) x all e = subst P (same_Some y x e) all.0
last-all P (y ∷ z ∷ xs) x all e = last-all P (z ∷ xs) x all.1 e

-- what is found of offset 0 reports the base
pub base_found : (index : OffsetTable) → (find index 0).0 ≡ index.base
base_found index = by (floor_of index 0) refl
  where
    by : (o : Option (ℕ × ℕ)) → floor_of index 0 ≡ o → (place_of index.base o).0 ≡ index.base
    by None e = refl
    by (Some entry) e =
        let low = leb-true (index.base + entry.0) 0 (last-all (λ x. is_up_to index.base 0 x ≡ true) (filter (is_up_to index.base 0) index.entries) entry (passing (is_up_to index.base 0) index.entries) e) in
        omega (arith, low)

-- the first parts of a list's pairs
abbrev pub firsts : List (ℕ × ℕ) → List ℕ
firsts entries = map (λ (entry : ℕ × ℕ). entry.0) entries

firsts-long : (entries : List (ℕ × ℕ)) → length (firsts entries) ≡ length entries
firsts-long [] = refl
firsts-long (x ∷ entries) = ap (λ n. suc n) (firsts-long entries)

firsts-at : (entries : List (ℕ × ℕ)) (i d : ℕ) → get_or (firsts entries) i d ≡ (get_or entries i (d, 0)).0
firsts-at [] i d = refl
firsts-at (x ∷ entries) zero d = refl
firsts-at (x ∷ entries) (suc i) d = firsts-at entries i d

-- the relative offsets up to one come first
pub firsts-parted : (far : ℕ) (entries : List (ℕ × ℕ)) → AreOffsets entries → IsPartitionedBy (λ last. nat_le last far) (firsts entries)
firsts-parted far entries h i j d up within t =
    let parted = chain-parted FitsEntry Rises (λ e. nat_le e.0 far) (λ x y r t. (let le = leb-true _ _ t in le-leb _ _ (omega (arith, le, r.0)))) entries h in
    let long = firsts-long entries in
    ap (λ n. nat_le n far) (firsts-at entries i d) ∙ parted i j (d, 0) up (omega (arith, within, long)) (ap (λ n. nat_le n far) (sym (firsts-at entries j d)) ∙ t)

-- below the base all are past
pub all-past : (base offset : ℕ) (offsets : List ℕ) → offset < base → filter (λ last. nat_lt offset (base + last)) offsets ≡ offsets
all-past base offset [] low = refl
all-past base offset (x ∷ offsets) low =
    let yes : nat_lt offset (base + x) ≡ true = lt-ltb _ _ (omega (arith, low)) in
    rw yes (ap (λ rest. x ∷ rest) (all-past base offset offsets low))

-- an offset that isn't past is at or below
pub past-not : (base offset : ℕ) → base ≤ offset → (last : ℕ) → nat_lt offset (base + last) ≡ not (nat_le last (offset - base))
past-not base offset low last = grind (arith, nat_tests, low)
