-- An id's place among the entries, and what changes there.
use Rattle.std.proofs.Common.{zero, suc, ◌≡◌, ◌∙◌, refl, sym, ap, ℕ, ◌<◌, Bool, true, false, cond, List, [], ◌∷◌, ◌++◌, Option, Some, None, length, get_or, set, arith}
use Rattle.std.specs.Prelude.{slice_get, option_map}
use Rattle.std.specs.Str.{bytes_eq}
use Rattle.std.specs.BTreeMap.{BTreeMap, get, is_at, Updates}
use Rattle.std.specs.Cmp.{Equal-is, both_ways as same_tests}
use Rattle.std.specs.Ordering.{nat_cmp}
use Rattle.std.proofs.lemmas.Bool.{both_ways}
use Rattle.std.proofs.lemmas.Map.Lookups.{exact_unsigned}
use Rattle.tier_base.specs.Key.{IsId}
use Rattle.tier_base.specs.declared.names.SegmentId.{SegmentId}
use Rattle.segment_meta.specs.declared.note.Entry.{Entry}
use Rattle.remote_view.specs.Fold.{entry_of, changed}
use Rattle.remote_view.specs.Lookup.{id_number}
use Rattle.remote_view.specs.Places.{place_of}
use Rattle.remote_view.proofs.Ids.{same_id, same_number, bytes_self}

at_itself : (number : ℕ) → is_at (nat_cmp number) number ≡ true
at_itself number = grind (arith)

-- the numbers of ids distinguish them as their bytes do
at_is : (a b : SegmentId) → IsId a → IsId b → is_at (nat_cmp (id_number a)) (id_number b) ≡ bytes_eq a.0 b.0
at_is a b is is' =
    same_tests (is_at (nat_cmp (id_number a)) (id_number b)) (bytes_eq a.0 b.0)
    (λ at.
    (let one : id_number a ≡ id_number b = exact_unsigned (id_number a) (id_number b) ((Equal-is (nat_cmp (id_number a) (id_number b))).0 at) in
    let same : a ≡ b = same_number a b is is' one in
    rw same (bytes_self b.0)))
    (λ bytes.
    (let same : a ≡ b = same_id a b bytes in
    rw same (at_itself (id_number b))))

-- where the place is, and what is there
place-step : (t : Bool) (e : Entry) (es : List Entry) (p : Option ℕ) (rest : Option Entry) (k : ℕ) → cond t (Some zero) (option_map suc p) ≡ Some k
    → ((j : ℕ) → p ≡ Some j → (j < length es) × (slice_get es j ≡ rest)) → (k < length (e ∷ es)) × (slice_get (e ∷ es) k ≡ cond t (Some e) rest)
place-step true e es p rest k h more = let here : k ≡ 0 = cc in rw here (omega arith, refl)
place-step false e es None rest k h more = absurd (cc)
place-step false e es (Some j) rest k h more =
    let there : k ≡ suc j = cc in
    let found = more j refl in
    rw there (omega (arith, found.0), found.1)

pub place_found : (id : SegmentId) (es : List Entry) (k : ℕ) → place_of id es ≡ Some k → (k < length es) × (slice_get es k ≡ entry_of id es)
place_found id [] k h = absurd (cc)
place_found id (e ∷ es) k h = place-step (bytes_eq e.id.0 id.0) e es (place_of id es) (entry_of id es) k h (λ j found. place_found id es j found)

-- an id that has no place has no entry, and nothing changes there
pub no_place : (id : SegmentId) (f : Entry → Entry) (es : List Entry) → place_of id es ≡ None → (entry_of id es ≡ None) × (changed id f es ≡ es)
no_place id f [] h = (refl, refl)
no_place id f (e ∷ es) h = by (bytes_eq e.id.0 id.0) (place_of id es) h (λ none. no_place id f es none)
  where
    by : (t : Bool) (p : Option ℕ) → cond t (Some zero) (option_map suc p) ≡ None → (p ≡ None → (entry_of id es ≡ None) × (changed id f es ≡ es))
        → (cond t (Some e) (entry_of id es) ≡ None) × (cond t (f e ∷ es) (e ∷ changed id f es) ≡ e ∷ es)
    by true p h more = absurd (cc)
    by false None h more = let rest = more refl in (rest.0, ap (λ (l : List Entry). e ∷ l) rest.1)
    by false (Some j) h more = absurd (cc)

-- nor has one that has no entry a place
pub no_entry : (id : SegmentId) (es : List Entry) → entry_of id es ≡ None → place_of id es ≡ None
no_entry id [] h = refl
no_entry id (e ∷ es) h = by (bytes_eq e.id.0 id.0) h (λ none. no_entry id es none)
  where
    by : (t : Bool) → cond t (Some e) (entry_of id es) ≡ None → (entry_of id es ≡ None → place_of id es ≡ None) → cond t (Some zero) (option_map suc (place_of id es)) ≡ None
    by true h more = absurd (cc)
    by false h more = ap (option_map suc) (more h)

-- the entry at the place is the one that changes
pub changed_at : (id : SegmentId) (f : Entry → Entry) (es : List Entry) (k : ℕ) (d : Entry) → place_of id es ≡ Some k → set es k (f (get_or es k d)) ≡ changed id f es
changed_at id f [] k d h = absurd (cc)
changed_at id f (e ∷ es) k d h = by (bytes_eq e.id.0 id.0) (place_of id es) h (λ j found. changed_at id f es j d found)
  where
    by : (t : Bool) (p : Option ℕ) → cond t (Some zero) (option_map suc p) ≡ Some k → ((j : ℕ) → p ≡ Some j → set es j (f (get_or es j d)) ≡ changed id f es)
        → set (e ∷ es) k (f (get_or (e ∷ es) k d)) ≡ cond t (f e ∷ es) (e ∷ changed id f es)
    by true p h more = let here : k ≡ 0 = cc in rw here refl
    by false None h more = absurd (cc)
    by false (Some j) h more = let there : k ≡ suc j = cc in rw there (ap (λ (l : List Entry). e ∷ l) (more j refl))

-- a change that keeps the ids keeps the places
pub place_changed : (q id : SegmentId) (f : Entry → Entry) (es : List Entry) → ((e : Entry) → (f e).id ≡ e.id) → place_of q (changed id f es) ≡ place_of q es
place_changed q id f [] keeps = refl
place_changed q id f (e ∷ es) keeps = by (bytes_eq e.id.0 id.0) (place_changed q id f es keeps)
  where
    by : (t : Bool) → place_of q (changed id f es) ≡ place_of q es → place_of q (cond t (f e ∷ es) (e ∷ changed id f es)) ≡ place_of q (e ∷ es)
    by true more = rw (keeps e) refl
    by false more = rw more refl

push-step : (here new : Bool) (p q : Option ℕ) (n : ℕ) → q ≡ cond new (Some n) p → (here ≡ true → new ≡ true → ⊥)
    → cond here (Some zero) (option_map suc q) ≡ cond new (Some (suc n)) (cond here (Some zero) (option_map suc p))
push-step true true p q n more apart = absurd (apart refl refl)
push-step true false p q n more apart = refl
push-step false true p q n more apart = rw more refl
push-step false false p q n more apart = rw more refl

none-parts : (here : Bool) (p : Option ℕ) → cond here (Some zero) (option_map suc p) ≡ None → (here ≡ false) × (p ≡ None)
none-parts true p h = absurd (cc)
none-parts false None h = (refl, refl)
none-parts false (Some j) h = absurd (cc)

-- two ids with the bytes of one
both-same : (a b q : SegmentId) → bytes_eq a.0 b.0 ≡ false → bytes_eq a.0 q.0 ≡ true → bytes_eq b.0 q.0 ≡ true → ⊥
both-same a b q apart one other =
    let a_q : a ≡ q = same_id a q one in
    let b_q : b ≡ q = same_id b q other in
    let same : bytes_eq a.0 b.0 ≡ true = rw (a_q, b_q) (bytes_self q.0) in
    both_ways _ apart same

-- an entry of a new id follows the others
pub place_push : (q : SegmentId) (es : List Entry) (e : Entry) → place_of e.id es ≡ None
    → place_of q (es ++ e ∷ []) ≡ cond (bytes_eq e.id.0 q.0) (Some (length es)) (place_of q es)
place_push q [] e none = refl
place_push q (x ∷ es) e none =
    let parts = none-parts (bytes_eq x.id.0 e.id.0) (place_of e.id es) none in
    push-step (bytes_eq x.id.0 q.0) (bytes_eq e.id.0 q.0) (place_of q es) (place_of q (es ++ e ∷ [])) (length es) (place_push q es e parts.1) (both-same x.id e.id q parts.0)

-- the places after a map took in the new one
pub places_push : (places new : BTreeMap ℕ ℕ) (es : List Entry) (e : Entry) (n : ℕ) → n ≡ length es → IsId e.id → entry_of e.id es ≡ None
    → ((id : SegmentId) → IsId id → get nat_cmp places (id_number id) ≡ place_of id es) → Updates nat_cmp places new (id_number e.id) (Some n)
    → (id : SegmentId) → IsId id → get nat_cmp new (id_number id) ≡ place_of id (es ++ e ∷ [])
places_push places new es e n at kept none right u id is =
    u.0 (id_number id)
    ∙ (ap (λ (t : Bool). cond t (Some n) (get nat_cmp places (id_number id))) (at_is e.id id kept is)
    ∙ (ap (λ (old : Option ℕ). cond (bytes_eq e.id.0 id.0) (Some n) old) (right id is)
    ∙ (ap (λ (k : ℕ). cond (bytes_eq e.id.0 id.0) (Some k) (place_of id es)) at
    ∙ sym (place_push id es e (no_entry e.id es none)))))
