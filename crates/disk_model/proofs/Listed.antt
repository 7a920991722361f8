-- The list of names: each file's name, no other, and none twice.
use Rattle.std.proofs.Common.{◌≡◌, ◌⊎◌, ℕ, Bool, true, false, cond, List, [], ◌∷◌, ◌++◌, ◌==◌, map, Option, Some, None, refl, sym, ap, subst, inl, inr, IsSome, Result, Ok, Err, IfOk, OnOk, arith}
use Rattle.std.specs.declared.alloc.AllocError.{AllocError}
use Rattle.std.specs.Ordering.{nat_cmp}
use Rattle.std.specs.declared.cmp.Ordering.TheVariants.{Less}
use Rattle.std.specs.BTreeMap.{keys, is_at}
use Rattle.std.specs.Map.{lookup, keys_of}
use Rattle.std.specs.Cmp.{Equal-is}
use Rattle.std.specs.List.Sorted.{IsStrictlySortedBy}
use Rattle.std.specs.List.{AllByRecursion}
use Rattle.std.proofs.lemmas.Map.Lookups.{exact_unsigned}
use Rattle.tier_base.specs.declared.plain.FileName.{FileName}
use Rattle.tier_base.specs.declared.plain.FileName.TheVariants.{Manifest, Log, Notes, Gate, Registry}
use Rattle.disk_model.specs.declared.file_bytes.FileBytes.{FileBytes}
use Rattle.disk_model.specs.declared.shelf.Shelf.{Shelf}
use Rattle.tier_base.specs.Told.{In, Once, NamesAllHeld}
use Rattle.disk_model.specs.Content.{Files}
use Rattle.disk_model.specs.FileBytes.{bytes_at}
use Rattle.disk_model.specs.Shelf.{files_on, if_there, names_on}

in_left : (n : FileName) (xs ys : List FileName) → In n xs → In n (xs ++ ys)
in_left n (x ∷ xs) ys (inl is) = inl is
in_left n (x ∷ xs) ys (inr more) = inr (in_left n xs ys more)
in_left n [] ys h = absurd h

in_right : (n : FileName) (xs ys : List FileName) → In n ys → In n (xs ++ ys)
in_right n [] ys h = h
in_right n (x ∷ xs) ys h = inr (in_right n xs ys h)

in_either : (n : FileName) (xs ys : List FileName) → In n (xs ++ ys) → In n xs ⊎ In n ys
in_either n [] ys h = inr h
in_either n (x ∷ xs) ys (inl is) = inl (inl is)
in_either n (x ∷ xs) ys (inr more) = side (in_either n xs ys more) where
  side : In n xs ⊎ In n ys → In n (x ∷ xs) ⊎ In n ys
  side (inl l) = inl (inr l)
  side (inr r) = inr r

once_both : (xs ys : List FileName) → Once xs → Once ys → ((n : FileName) → In n xs → In n ys → ⊥) → Once (xs ++ ys)
once_both [] ys left right apart = right
once_both (x ∷ xs) ys left right apart = (
  λ again. elim (in_either x xs ys again) [ inl l ↦ left.0 l | inr r ↦ apart x (inl refl) r ],
  once_both xs ys left.1 right (λ n l r. apart n (inr l) r),
)

-- what kind of name it is
abbrev kind : FileName → ℕ
kind Manifest = 0
kind (Log b) = 1
kind Notes = 2
kind Gate = 3
kind Registry = 4

slot : (name : FileName) (held : Option FileBytes) → IsSome (bytes_at held) → In name (if_there name held)
slot name None some = cc
slot name (Some held) some = inl refl

slot_back : (n name : FileName) (held : Option FileBytes) → In n (if_there name held) → (n ≡ name) × IsSome (bytes_at held)
slot_back n name None h = absurd h
slot_back n name (Some held) (inl is) = (is, refl)
slot_back n name (Some held) (inr h) = absurd h

slot_once : (name : FileName) (held : Option FileBytes) → Once (if_there name held)
slot_once name None = tt
slot_once name (Some held) = (λ h. h, tt)

key_in : (es : List (ℕ × FileBytes)) (b : ℕ) → IsSome (bytes_at (lookup (is_at (nat_cmp b)) es)) → In (Log b) (map Log (keys_of es))
key_in [] b some = cc
key_in (e ∷ es) b some = here (is_at (nat_cmp b) e.0) refl (key_in es b) some where
  here : (t : Bool) → is_at (nat_cmp b) e.0 ≡ t → (IsSome (bytes_at (lookup (is_at (nat_cmp b)) es)) → In (Log b) (map Log (keys_of es))) → IsSome (bytes_at (cond t (Some e.1) (lookup (is_at (nat_cmp b)) es))) → In (Log b) (map Log (keys_of (e ∷ es)))
  here true is rest some = inl (ap Log (exact_unsigned b e.0 ((Equal-is (nat_cmp b e.0)).0 is)))
  here false is rest some = inr (rest some)

at_itself : (b : ℕ) → is_at (nat_cmp b) b ≡ true
at_itself b = grind (arith)

some_either : (t : Bool) (v : FileBytes) (o : Option FileBytes) → IsSome (bytes_at o) → IsSome (bytes_at (cond t (Some v) o))
some_either true v o some = refl
some_either false v o some = some

key_back : (es : List (ℕ × FileBytes)) (n : FileName) → In n (map Log (keys_of es)) → (b : ℕ) × (n ≡ Log b) × IsSome (bytes_at (lookup (is_at (nat_cmp b)) es))
key_back [] n h = absurd h
key_back (e ∷ es) n (inl is) = (e.0, is, subst (λ (t : Bool). IsSome (bytes_at (cond t (Some e.1) (lookup (is_at (nat_cmp e.0)) es)))) (sym (at_itself e.0)) refl)
key_back (e ∷ es) n (inr more) = later (key_back es n more) where
  later : (b : ℕ) × (n ≡ Log b) × IsSome (bytes_at (lookup (is_at (nat_cmp b)) es)) → (b : ℕ) × (n ≡ Log b) × IsSome (bytes_at (lookup (is_at (nat_cmp b)) (e ∷ es)))
  later r = (r.0, r.1, some_either (is_at (nat_cmp r.0) e.0) e.1 (lookup (is_at (nat_cmp r.0)) es) r.2)

key_kind : (ks : List ℕ) (n : FileName) → In n (map Log ks) → kind n ≡ 1
key_kind [] n h = absurd h
key_kind (k ∷ ks) n (inl is) = ap kind is
key_kind (k ∷ ks) n (inr more) = key_kind ks n more

not_below_itself : (x y : ℕ) → nat_cmp x y ≡ Less → Log x ≡ Log y → ⊥
not_below_itself x y less same = grind (arith)

above : (x : ℕ) (ks : List ℕ) → AllByRecursion (λ y. nat_cmp x y ≡ Less) ks → In (Log x) (map Log ks) → ⊥
above x [] all h = h
above x (k ∷ ks) all (inl is) = not_below_itself x k all.0 is
above x (k ∷ ks) all (inr more) = above x ks all.1 more

keys_once : (ks : List ℕ) → IsStrictlySortedBy nat_cmp ks → Once (map Log ks)
unfolding IsStrictlySortedBy
keys_once [] sorted = tt
keys_once (k ∷ ks) sorted = (above k ks sorted.0, keys_once ks sorted.1)

covered : (shelf : Shelf) (n : FileName) → IsSome (files_on shelf n) → In n (names_on shelf)
covered shelf n some =
    let L : List FileName = map Log (keys shelf.logs) in
    let M = if_there Manifest shelf.manifest in
    let N = if_there Notes shelf.notes in
    let G = if_there Gate shelf.gate in
    let R = if_there Registry shelf.registry in
    one shelf n some L M N G R refl refl refl refl refl where
      one : (shelf : Shelf) (n : FileName) → IsSome (files_on shelf n) → (L M N G R : List FileName) → map Log (keys shelf.logs) ≡ L → if_there Manifest shelf.manifest ≡ M → if_there Notes shelf.notes ≡ N → if_there Gate shelf.gate ≡ G → if_there Registry shelf.registry ≡ R → In n (L ++ M ++ N ++ G ++ R)
      one shelf (Log b) some L M N G R l m o g r = in_left (Log b) (L ++ M ++ N ++ G) R (in_left (Log b) (L ++ M ++ N) G (in_left (Log b) (L ++ M) N (in_left (Log b) L M (subst (In (Log b)) l (key_in shelf.logs.entries b some)))))
      one shelf Manifest some L M N G R l m o g r = in_left Manifest (L ++ M ++ N ++ G) R (in_left Manifest (L ++ M ++ N) G (in_left Manifest (L ++ M) N (in_right Manifest L M (subst (In Manifest) m (slot Manifest shelf.manifest some)))))
      one shelf Notes some L M N G R l m o g r = in_left Notes (L ++ M ++ N ++ G) R (in_left Notes (L ++ M ++ N) G (in_right Notes (L ++ M) N (subst (In Notes) o (slot Notes shelf.notes some))))
      one shelf Gate some L M N G R l m o g r = in_left Gate (L ++ M ++ N ++ G) R (in_right Gate (L ++ M ++ N) G (subst (In Gate) g (slot Gate shelf.gate some)))
      one shelf Registry some L M N G R l m o g r = in_right Registry (L ++ M ++ N ++ G) R (subst (In Registry) r (slot Registry shelf.registry some))

-- a name of the list is that of a file
real : (shelf : Shelf) (n : FileName) → In n (names_on shelf) → IsSome (files_on shelf n)
real shelf n h =
    let L : List FileName = map Log (keys shelf.logs) in
    let M = if_there Manifest shelf.manifest in
    let N = if_there Notes shelf.notes in
    let G = if_there Gate shelf.gate in
    let R = if_there Registry shelf.registry in
    elim (in_either n (L ++ M ++ N ++ G) R h) [
      | inr r ↦ in_slot Registry shelf.registry refl r
      | inl lmng ↦ elim (in_either n (L ++ M ++ N) G lmng) [
        | inr g ↦ in_slot Gate shelf.gate refl g
        | inl lmn ↦ elim (in_either n (L ++ M) N lmn) [
          | inr o ↦ in_slot Notes shelf.notes refl o
          | inl lm ↦ elim (in_either n L M lm) [
            | inr m ↦ in_slot Manifest shelf.manifest refl m
            | inl l ↦ (let r = key_back shelf.logs.entries n l in subst (λ (m : FileName). IsSome (files_on shelf m)) (sym r.1) r.2)
          ]
        ]
      ]
    ] where
      in_slot : (name : FileName) (held : Option FileBytes) → files_on shelf name ≡ bytes_at held → In n (if_there name held) → IsSome (files_on shelf n)
      in_slot name held is h = (let r = slot_back n name held h in subst (λ (m : FileName). IsSome (files_on shelf m)) (sym r.0) (subst IsSome (sym is) r.1))

-- no name occurs twice
once : (shelf : Shelf) → IsStrictlySortedBy nat_cmp (keys shelf.logs) → Once (names_on shelf)
once shelf sorted =
    let L : List FileName = map Log (keys shelf.logs) in
    let M = if_there Manifest shelf.manifest in
    let N = if_there Notes shelf.notes in
    let G = if_there Gate shelf.gate in
    let l : (n : FileName) → In n L → kind n ≡ 1 = key_kind (keys shelf.logs) in
    let m : (n : FileName) → In n M → kind n ≡ 0 = λ n h. ap kind (slot_back n Manifest shelf.manifest h).0 in
    let o : (n : FileName) → In n N → kind n ≡ 2 = λ n h. ap kind (slot_back n Notes shelf.notes h).0 in
    let g : (n : FileName) → In n G → kind n ≡ 3 = λ n h. ap kind (slot_back n Gate shelf.gate h).0 in
    let R = if_there Registry shelf.registry in
    let r : (n : FileName) → In n R → kind n ≡ 4 = λ n h. ap kind (slot_back n Registry shelf.registry h).0 in
    once_both (L ++ M ++ N ++ G) R
    (once_both (L ++ M ++ N) G
    (once_both (L ++ M) N
    (once_both L M (keys_once (keys shelf.logs) sorted) (slot_once Manifest shelf.manifest) (λ n a b. two 1 0 n refl (l n a) (m n b)))
    (slot_once Notes shelf.notes)
    (λ n a b. elim (in_either n L M a) [ inl a ↦ two 1 2 n refl (l n a) (o n b) | inr a ↦ two 0 2 n refl (m n a) (o n b) ]))
    (slot_once Gate shelf.gate)
    (λ n a b. elim (in_either n (L ++ M) N a) [
      | inr a ↦ two 2 3 n refl (o n a) (g n b)
      | inl a ↦ elim (in_either n L M a) [ inl a ↦ two 1 3 n refl (l n a) (g n b) | inr a ↦ two 0 3 n refl (m n a) (g n b) ]
    ]))
    (slot_once Registry shelf.registry)
    (λ n a b. elim (in_either n (L ++ M ++ N) G a) [
      | inr a ↦ two 3 4 n refl (g n a) (r n b)
      | inl a ↦ elim (in_either n (L ++ M) N a) [
        | inr a ↦ two 2 4 n refl (o n a) (r n b)
        | inl a ↦ elim (in_either n L M a) [ inl a ↦ two 1 4 n refl (l n a) (r n b) | inr a ↦ two 0 4 n refl (m n a) (r n b) ]
      ]
    ]) where
      two : (a b : ℕ) (n : FileName) → (a == b) ≡ false → kind n ≡ a → kind n ≡ b → ⊥
      two a b n ne is is' = grind (arith)

pub names_are : (shelf : Shelf) (read : Files) (names : List FileName) → names ≡ names_on shelf → IsStrictlySortedBy nat_cmp (keys shelf.logs) → ((n : FileName) → files_on shelf n ≡ read n) → NamesAllHeld read names
names_are shelf read names is sorted same = record {
  are = λ n. (
    (λ some. subst (In n) (sym is) (covered shelf n (subst IsSome (sym (same n)) some))),
    (λ h. subst IsSome (same n) (real shelf n (subst (In n) is h))),
  );
  once = subst Once (sym is) (once shelf sorted);
}

-- the answer of a list
pub listed : (result : Result (List FileName) AllocError) (shelf : Shelf) (read : Files) → IfOk result (λ names. names ≡ names_on shelf) → OnOk result (IsStrictlySortedBy nat_cmp (keys shelf.logs)) → ((n : FileName) → files_on shelf n ≡ read n)
    → IfOk result (λ names. NamesAllHeld read names)
listed (Ok names) shelf read is sorted same = names_are shelf read names is sorted same
listed (Err e) shelf read is sorted same = tt
