-- The first of some names: the order of their bytes, and one name after another.
use Rattle.std.specs.Prelude.{◌≡◌, ◌⊎◌, ◌↔◌, ℕ, zero, suc, ◌+◌, ◌<◌, ◌≤◌, length, Bool, true, false, cond, List, [], ◌∷◌, slice_get, Option, Some, None, IsTrue, IsSomeAnd, refl}
use Rattle.std.proofs.Common.{◌∙◌, sym, ap, subst, inl, inr, ⊎_elim, eqb, ltb, map, arith}
use Rattle.std.proofs.lemmas.Bool.{false≢true}
use Rattle.std.proofs.lemmas.Bool.Decides.{eqb_tells, Decides-ltb, nat_tests}
use Rattle.std.proofs.lemmas.Option.{slice_get_within}
use Rattle.std.proofs.lemmas.Cmp.{same_from_slice_cmp}
use Rattle.std.proofs.lemmas.List.{length-map}
use Rattle.std.specs.Cmp.Lexicographic.{slice_cmp}
use Rattle.std.specs.Ordering.{nat_cmp, is_le}
use Rattle.std.specs.declared.cmp.Ordering.{Ordering}
use Rattle.tier_base.specs.declared.names.PartitionId.{PartitionId}
use Rattle.tier_base.specs.Told.{In}
use Rattle.device_yard.specs.YardContent.{IsNameUpTo, IsFirstName}
use Rattle.memory_yard.specs.First.{name_of, IsNameIn, IsFirstWith}

-- the order as a test
abbrev upto : List ℕ → List ℕ → Bool
upto [] ys = true
upto (x ∷ xs) [] = false
upto (x ∷ xs) (y ∷ ys) = cond (eqb x y) (upto xs ys) (ltb x y)

is_upto : (xs ys : List ℕ) (o : Ordering) → o ≡ slice_cmp nat_cmp xs ys → is_le o ≡ upto xs ys
is_upto = same_from_slice_cmp nat_cmp is_le upto refl (λ _ _. refl) (λ _ _. refl) (λ x y xs ys o h. grind (arith, nat_tests))

-- one more letter that is the same
more_same : (x y : ℕ) (xs ys : List ℕ) → x ≡ y → IsTrue (upto xs ys) ↔ IsNameUpTo xs ys → IsTrue (upto xs ys) ↔ IsNameUpTo (x ∷ xs) (y ∷ ys)
more_same x y xs ys e h = (λ t. inr (e, h.0 t), λ up. ⊎_elim (λ below. absurd (omega arith)) (λ same. h.1 same.1) up)

-- or another one
more_other : (x y : ℕ) (xs ys : List ℕ) → (x ≡ y → ⊥) → IsTrue (ltb x y) ↔ IsNameUpTo (x ∷ xs) (y ∷ ys)
more_other x y xs ys n =
    (λ t. inl ((Decides-ltb x y).0 t), λ up. ⊎_elim (λ below. (Decides-ltb x y).1 below) (λ same. absurd (n same.0)) up)

upto_tells : (xs ys : List ℕ) → IsTrue (upto xs ys) ↔ IsNameUpTo xs ys
upto_tells [] ys = (λ _. tt, λ _. refl)
upto_tells (x ∷ xs) [] = (λ e. absurd (false≢true e), λ h. absurd h)
upto_tells (x ∷ xs) (y ∷ ys) =
    ⊎_elim
    (λ yes. subst (λ b. IsTrue (cond b (upto xs ys) (ltb x y)) ↔ IsNameUpTo (x ∷ xs) (y ∷ ys)) (sym yes.0) (more_same x y xs ys yes.1 (upto_tells xs ys)))
    (λ no. subst (λ b. IsTrue (cond b (upto xs ys) (ltb x y)) ↔ IsNameUpTo (x ∷ xs) (y ∷ ys)) (sym no.0) (more_other x y xs ys no.1))
    (eqb_tells x y)

-- what a comparison answers
pub compared : (xs ys : List ℕ) (o : Ordering) (r : Bool) → o ≡ slice_cmp nat_cmp xs ys → r ≡ is_le o → IsTrue r ↔ IsNameUpTo xs ys
compared xs ys o r e is =
    let same : r ≡ upto xs ys = is ∙ is_upto xs ys o e in
    subst (λ b. IsTrue b ↔ IsNameUpTo xs ys) (sym same) (upto_tells xs ys)

up_to_itself : (xs : List ℕ) → IsNameUpTo xs xs
up_to_itself [] = tt
up_to_itself (x ∷ xs) = inr (refl, up_to_itself xs)

up_to_along : (xs ys zs : List ℕ) → IsNameUpTo xs ys → IsNameUpTo ys zs → IsNameUpTo xs zs
up_to_along [] ys zs h k = tt
up_to_along (x ∷ xs) [] zs h k = absurd h
up_to_along (x ∷ xs) (y ∷ ys) [] h k = absurd k
up_to_along (x ∷ xs) (y ∷ ys) (z ∷ zs) (inl h) (inl k) = inl (omega arith)
up_to_along (x ∷ xs) (y ∷ ys) (z ∷ zs) (inl h) (inr k) = let e : y ≡ z = k.0 in inl (omega arith)
up_to_along (x ∷ xs) (y ∷ ys) (z ∷ zs) (inr h) (inl k) = let e : x ≡ y = h.0 in inl (omega arith)
up_to_along (x ∷ xs) (y ∷ ys) (z ∷ zs) (inr h) (inr k) = inr (h.0 ∙ k.0, up_to_along xs ys zs h.1 k.1)

-- of two one precedes the other
up_to_either : (xs ys : List ℕ) → (IsNameUpTo xs ys → ⊥) → IsNameUpTo ys xs
up_to_either [] ys n = absurd (n tt)
up_to_either (x ∷ xs) [] n = tt
up_to_either (x ∷ xs) (y ∷ ys) n =
    ⊎_elim
    (λ yes. inr (sym yes.1, up_to_either xs ys (λ up. n (inr (yes.1, up)))))
    (λ no. inl (let m : x < y → ⊥ = λ below. n (inl below) in let d : x ≡ y → ⊥ = no.1 in omega arith))
    (eqb_tells x y)

some_is : {A : Type 0} → (x y : A) → Some x ≡ Some y → x ≡ y
some_is x y e = cc

-- an offer that isn't taken
pub offer_kept : (o : Option (List ℕ)) (name : List ℕ) → IsSomeAnd o (λ x. IsNameUpTo x name) → IsFirstWith (λ text. text ≡ name) o o
offer_kept None name up = absurd up
offer_kept (Some x) name up = (
  inl refl,
  λ text. ⊎_elim
      (λ was. subst (λ t. IsNameUpTo x t) (some_is x text was) (up_to_itself x))
      (λ is. subst (λ t. IsNameUpTo x t) (sym is) up),
)

-- and one that is
pub offer_taken : (o : Option (List ℕ)) (name : List ℕ) → (IsSomeAnd o (λ x. IsNameUpTo x name) → ⊥) → IsFirstWith (λ text. text ≡ name) o (Some name)
offer_taken None name n = (inr refl, λ text. ⊎_elim (λ was. absurd cc) (λ is. subst (λ t. IsNameUpTo name t) (sym is) (up_to_itself name)))
offer_taken (Some x) name n = (
  inr refl,
  λ text. ⊎_elim
      (λ was. subst (λ t. IsNameUpTo name t) (some_is x text was) (up_to_either x name n))
      (λ is. subst (λ t. IsNameUpTo name t) (sym is) (up_to_itself name)),
)

-- the first of the same names
pub first_same : (P Q : List ℕ → Type 0) (o : Option (List ℕ)) → ((t : List ℕ) → P t → Q t) → ((t : List ℕ) → Q t → P t) → IsFirstName P o → IsFirstName Q o
first_same P Q None to from h = λ t q. h t (from t q)
first_same P Q (Some x) to from h = (to x h.0, λ t q. h.1 t (from t q))

-- the first of some, and then of more
pub first_then : (P Q : List ℕ → Type 0) (a b : Option (List ℕ)) → IsFirstName P a → IsFirstWith Q a b → IsFirstName (λ t. P t ⊎ Q t) b
first_then P Q None None h k = λ t. ⊎_elim (λ p. h t p) (λ q. k t (inr q))
first_then P Q (Some x) None h k = absurd (k x (inl refl))
first_then P Q None (Some y) h k =
    (⊎_elim (λ e. absurd cc) (λ q. inr q) k.0, λ t. ⊎_elim (λ p. absurd (h t p)) (λ q. k.1 t (inr q)))
first_then P Q (Some x) (Some y) h k = (
  ⊎_elim (λ e. inl (subst P (some_is x y e) h.0)) (λ q. inr q) k.0,
  λ t. ⊎_elim (λ p. up_to_along y x t (k.1 x (inl refl)) (h.1 t p)) (λ q. k.1 t (inr q)),
)

-- the same where there was a first one before
pub first_with_then : (P Q : List ℕ → Type 0) (o a b : Option (List ℕ)) → IsFirstWith P o a → IsFirstWith Q a b → IsFirstWith (λ t. P t ⊎ Q t) o b
first_with_then P Q o a b h k =
    first_same _ _ b
    (λ t. ⊎_elim (λ p. ⊎_elim (λ e. inl e) (λ y. inr (inl y)) p) (λ q. inr (inr q)))
    (λ t. ⊎_elim (λ e. inl (inl e)) (λ pq. ⊎_elim (λ p. inl (inr p)) (λ q. inr q) pq))
    (first_then (λ t. (o ≡ Some t) ⊎ P t) Q a b h k)

-- nothing more
pub first_with_none : (P : List ℕ → Type 0) (o : Option (List ℕ)) → ((t : List ℕ) → P t → ⊥) → IsFirstWith P o o
first_with_none P None n = λ t. ⊎_elim (λ e. absurd cc) (λ p. n t p)
first_with_none P (Some x) n = (inl refl, λ t. ⊎_elim (λ e. subst (λ y. IsNameUpTo x y) (some_is x t e) (up_to_itself x)) (λ p. absurd (n t p)))

-- a name of the list is at some place
pub in_at : (t : List ℕ) (xs : List (List ℕ)) → In t xs → (k : ℕ) × (slice_get xs k ≡ Some t)
in_at t [] h = absurd h
in_at t (x ∷ xs) (inl e) = (0, ap Some (sym e))
in_at t (x ∷ xs) (inr h) = let r = in_at t xs h in (suc r.0, r.1)

pub at_in : (t : List ℕ) (xs : List (List ℕ)) (k : ℕ) → slice_get xs k ≡ Some t → In t xs
at_in t [] k e = absurd cc
at_in t (x ∷ xs) zero e = inl (sym (some_is x t e))
at_in t (x ∷ xs) (suc k) e = inr (at_in t xs k e)

-- one name of a list after another
least_split : (names : List (List ℕ)) (i : ℕ) (name text : List ℕ) → slice_get names i ≡ Some name
    → ((k : ℕ) × (k < i + 1) × (slice_get names k ≡ Some text)) → ((k : ℕ) × (k < i) × (slice_get names k ≡ Some text)) ⊎ (text ≡ name)
least_split names i name text e h =
    ⊎_elim
    (λ yes. inr (some_is text name (sym h.2 ∙ (ap (slice_get names) yes.1 ∙ e))))
    (λ no. let d : h.0 ≡ i → ⊥ = no.1 in let le : h.0 < i + 1 = h.1 in inl (h.0, omega arith, h.2))
    (eqb_tells h.0 i)

least_join : (names : List (List ℕ)) (i : ℕ) (name text : List ℕ) → slice_get names i ≡ Some name
    → ((k : ℕ) × (k < i) × (slice_get names k ≡ Some text)) ⊎ (text ≡ name) → (k : ℕ) × (k < i + 1) × (slice_get names k ≡ Some text)
least_join names i name text e (inl h) = let le : h.0 < i = h.1 in (h.0, omega arith, h.2)
least_join names i name text e (inr is) = (i, omega arith, e ∙ ap Some (sym is))

pub least_more : (names : List (List ℕ)) (i : ℕ) (name : List ℕ) (a b : Option (List ℕ)) → slice_get names i ≡ Some name
    → IsFirstName (λ text. (k : ℕ) × (k < i) × (slice_get names k ≡ Some text)) a → IsFirstWith (λ text. text ≡ name) a b
    → IsFirstName (λ text. (k : ℕ) × (k < i + 1) × (slice_get names k ≡ Some text)) b
least_more names i name a b e h k =
    first_same _ _ b (λ t. least_join names i name t e) (λ t. least_split names i name t e)
    (first_then (λ text. (k : ℕ) × (k < i) × (slice_get names k ≡ Some text)) (λ text. text ≡ name) a b h k)

pub least_all : (names : List (List ℕ)) (i : ℕ) (a : Option (List ℕ)) → length names ≤ i
    → IsFirstName (λ text. (k : ℕ) × (k < i) × (slice_get names k ≡ Some text)) a → IsFirstName (λ text. In text names) a
least_all names i a le h =
    first_same _ _ a
    (λ t r. at_in t names r.0 r.2)
    (λ t r. let p = in_at t names r in let w : p.0 < length names = slice_get_within names p.0 t p.1 in (p.0, omega arith, p.1))
    h

-- the same after a first one
pub names_more : (names : List (List ℕ)) (i : ℕ) (name : List ℕ) (o a b : Option (List ℕ)) → slice_get names i ≡ Some name
    → IsFirstWith (λ text. (k : ℕ) × (k < i) × (slice_get names k ≡ Some text)) o a → IsFirstWith (λ text. text ≡ name) a b
    → IsFirstWith (λ text. (k : ℕ) × (k < i + 1) × (slice_get names k ≡ Some text)) o b
names_more names i name o a b e h k =
    first_same _ _ b
    (λ t. ⊎_elim (λ was. inl was) (λ n. inr (least_join names i name t e n)))
    (λ t. ⊎_elim (λ was. inl was) (λ n. inr (least_split names i name t e n)))
    (first_with_then (λ text. (k : ℕ) × (k < i) × (slice_get names k ≡ Some text)) (λ text. text ≡ name) o a b h k)

pub names_none : (names : List (List ℕ)) (o : Option (List ℕ)) → IsFirstWith (λ text. (k : ℕ) × (k < 0) × (slice_get names k ≡ Some text)) o o
names_none names o =
    first_with_none (λ text. (k : ℕ) × (k < 0) × (slice_get names k ≡ Some text)) o (λ t h. let le : h.0 < 0 = h.1 in absurd (omega arith))

-- the names of partitions
pub name_at : (list : List PartitionId) (i : ℕ) (p : PartitionId) → slice_get list i ≡ Some p → slice_get (map name_of list) i ≡ Some (name_of p)
name_at [] i p e = absurd cc
name_at (q ∷ list) zero p e = let is : q ≡ p = cc in ap (λ x. Some (name_of x)) is
name_at (q ∷ list) (suc i) p e = name_at list i p e

name_in : (list : List PartitionId) (text : List ℕ) → IsNameIn list text → In text (map name_of list)
name_in [] text h = absurd h.1
name_in (q ∷ list) text h = ⊎_elim (λ e. inl (h.2 ∙ ap name_of e)) (λ more. inr (name_in list text (h.0, more, h.2))) h.1

named_by : (list : List PartitionId) (text : List ℕ) → In text (map name_of list) → IsNameIn list text
named_by [] text h = absurd h
named_by (q ∷ list) text (inl e) = (q, inl refl, e)
named_by (q ∷ list) text (inr more) = let r = named_by list text more in (r.0, inr r.1, r.2)

pub names_all : (list : List PartitionId) (i : ℕ) (o a : Option (List ℕ)) → length list ≤ i
    → IsFirstWith (λ text. (k : ℕ) × (k < i) × (slice_get (map name_of list) k ≡ Some text)) o a → IsFirstWith (IsNameIn list) o a
names_all list i o a le h =
    first_same _ _ a
    (λ t. ⊎_elim (λ was. inl was) (λ r. inr (named_by list t (at_in t (map name_of list) r.0 r.2))))
    (λ t. ⊎_elim
    (λ was. inl was)
    (λ r.
    let p = in_at t (map name_of list) (name_in list t r) in
    let w : p.0 < length (map name_of list) = slice_get_within (map name_of list) p.0 t p.1 in
    let many : length (map name_of list) ≡ length list = length-map list name_of in
    inr (p.0, omega arith, p.1)))
    h
