-- The list of keys: each object's key, no other, and none twice.
use Rattle.std.proofs.Common.{◌≡◌, Bool, true, false, cond, List, [], ◌∷◌, map, Option, Some, refl, sym, ◌∙◌, ap, subst, inl, inr, IsSome, Result, Ok, Err, IfOk, OnOk}
use Rattle.std.specs.Prelude.{ℕ}
use Rattle.std.specs.declared.alloc.AllocError.{AllocError}
use Rattle.std.specs.declared.cmp.Ordering.TheVariants.{Less, Equal}
use Rattle.std.specs.BTreeMap.{keys, is_at}
use Rattle.std.specs.Map.{lookup, keys_of}
use Rattle.std.specs.List.Sorted.{IsStrictlySortedBy}
use Rattle.std.specs.List.{AllByRecursion}
use Rattle.tier_base.specs.declared.object_key.ObjectKey.{ObjectKey}
use Rattle.object_store.specs.declared.slot.Slot.{Slot}
use Rattle.object_store.specs.declared.shelf.Shelf.{Shelf}
use Rattle.tier_base.specs.Told.{In, Once, NamesAllHeld}
use Rattle.object_store.specs.Shelf.{slot_cmp, slot_of, key_at, objects_on, keys_on}
use Rattle.object_store.proofs.Slots.{slot_itself, slot_back, found_at, at_itself}

key_in : (es : List (Slot × List ℕ)) (k : ObjectKey) → IsSome (lookup (is_at (slot_cmp (slot_of k))) es) → In k (map key_at (keys_of es))
key_in [] k some = cc
key_in (e ∷ es) k some = here (is_at (slot_cmp (slot_of k)) e.0) refl (key_in es k) some where
  here : (t : Bool) → is_at (slot_cmp (slot_of k)) e.0 ≡ t → (IsSome (lookup (is_at (slot_cmp (slot_of k))) es) → In k (map key_at (keys_of es))) → IsSome (cond t (Some e.1) (lookup (is_at (slot_cmp (slot_of k))) es)) → In k (map key_at (keys_of (e ∷ es)))
  here true is rest some = inl (found_at k e.0 is)
  here false is rest some = inr (rest some)

some_either : (t : Bool) (v : List ℕ) (o : Option (List ℕ)) → IsSome o → IsSome (cond t (Some v) o)
some_either true v o some = refl
some_either false v o some = some

key_there : (es : List (Slot × List ℕ)) (k : ObjectKey) → In k (map key_at (keys_of es)) → IsSome (lookup (is_at (slot_cmp (slot_of k))) es)
key_there [] k h = absurd h
key_there (e ∷ es) k (inl is) =
    let same : slot_of k ≡ e.0 = ap slot_of is ∙ slot_back e.0 in
    subst (λ (s : Slot). IsSome (lookup (is_at (slot_cmp s)) (e ∷ es))) (sym same) (subst (λ (t : Bool). IsSome (cond t (Some e.1) (lookup (is_at (slot_cmp e.0)) es))) (sym (at_itself e.0)) refl)
key_there (e ∷ es) k (inr more) = some_either (is_at (slot_cmp (slot_of k)) e.0) e.1 (lookup (is_at (slot_cmp (slot_of k))) es) (key_there es k more)

not_below_itself : (x y : Slot) → slot_cmp x y ≡ Less → key_at x ≡ key_at y → ⊥
not_below_itself x y less same =
    let one : x ≡ y = sym (slot_back x) ∙ ap slot_of same ∙ slot_back y in
    let tied : slot_cmp x y ≡ Equal = subst (λ (s : Slot). slot_cmp x s ≡ Equal) one (slot_itself x) in
    let wrong : Less ≡ Equal = sym less ∙ tied in
    cc

above : (x : Slot) (ks : List Slot) → AllByRecursion (λ y. slot_cmp x y ≡ Less) ks → In (key_at x) (map key_at ks) → ⊥
above x [] all h = h
above x (k ∷ ks) all (inl is) = not_below_itself x k all.0 is
above x (k ∷ ks) all (inr more) = above x ks all.1 more

keys_once : (ks : List Slot) → IsStrictlySortedBy slot_cmp ks → Once (map key_at ks)
unfolding IsStrictlySortedBy
keys_once [] sorted = tt
keys_once (k ∷ ks) sorted = (above k ks sorted.0, keys_once ks sorted.1)

lists : (shelf : Shelf) → IsStrictlySortedBy slot_cmp (keys shelf.objects) → NamesAllHeld (objects_on shelf) (keys_on shelf)
lists shelf sorted = record {
  are = λ k. (key_in shelf.objects.entries k, key_there shelf.objects.entries k);
  once = keys_once (keys shelf.objects) sorted;
}

-- the answer of a list
pub listed : (result : Result (List ObjectKey) AllocError) (shelf : Shelf) → IfOk result (λ keys. keys ≡ keys_on shelf) → OnOk result (IsStrictlySortedBy slot_cmp (keys shelf.objects)) → IfOk result (λ keys. NamesAllHeld (objects_on shelf) keys)
listed (Ok keys) shelf is sorted = subst (NamesAllHeld (objects_on shelf)) (sym is) (lists shelf sorted)
listed (Err e) shelf is sorted = tt
