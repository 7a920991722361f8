-- Objects taken away one by one.
use Rattle.std.proofs.Common.{◌≡◌, ◌≢◌, ◌⊎◌, inl, inr, ◌∙◌, refl, sym, ap, ℕ, ◌+◌, ◌<◌, ◌==◌, Bool, true, false, cond, List, [], ◌∷◌, ◌++◌, ◌≤◌, length, take, get_or, None, Result, Ok, Err, arith}
use Rattle.std.specs.Prelude.{filter, not, IsOk, IsErr}
use Rattle.std.specs.Str.{bytes_eq}
use Rattle.std.proofs.lemmas.Bool.Decides.{nat_tests}
use Rattle.std.proofs.lemmas.List.{take_more}
use Rattle.tier_base.specs.declared.names.SegmentId.{SegmentId}
use Rattle.tier_base.specs.declared.names.PartitionId.{PartitionId}
use Rattle.tier_base.specs.declared.plain.Part.{Part}
use Rattle.tier_base.specs.declared.plain.Part.TheVariants.{Log, Index, TimeIndex, Epochs, Pack}
use Rattle.tier_base.specs.declared.object_key.ObjectKey.{ObjectKey}
use Rattle.tier_base.specs.Told.{In, removed}
use Rattle.object_store.specs.Content.{Objects, made_if}
use Rattle.segment_meta.specs.declared.note.Entry.{Entry}
use Rattle.remote_view.proofs.Ids.{same_id, bytes_self}
use Rattle.tier_sweep.specs.declared.refusal.SweepRefusal.{SweepRefusal}
use Rattle.tier_sweep.specs.Rest.{stays}
use Rattle.tier_sweep.specs.Sweeping.{MayRemove, count_swept}
use Rattle.tier_sweep.specs.Parts.{RemovesObject, TakesAll, TakesEach}

id_cases : (a b : SegmentId) → (a ≡ b) ⊎ (a ≢ b)
id_cases a b = by (bytes_eq a.0 b.0) refl
  where
    by : (t : Bool) → bytes_eq a.0 b.0 ≡ t → (a ≡ b) ⊎ (a ≢ b)
    by true is = inl (same_id a b is)
    by false is = inr (λ e. let yes : bytes_eq a.0 b.0 ≡ true = rw e (bytes_self b.0) in absurd (cc (yes, is)))

nat_cases : (a b : ℕ) → (a ≡ b) ⊎ (a ≢ b)
nat_cases a b = by (a == b) refl
  where
    by : (t : Bool) → (a == b) ≡ t → (a ≡ b) ⊎ (a ≢ b)
    by true is = inl (grind (arith, nat_tests, is))
    by false is = inr (grind (arith, nat_tests, is))

part_cases : (a b : Part) → (a ≡ b) ⊎ (a ≢ b)
part_cases Log Log = inl refl
part_cases Index Index = inl refl
part_cases TimeIndex TimeIndex = inl refl
part_cases Epochs Epochs = inl refl
part_cases Pack Pack = inl refl
part_cases a b = inr (λ e. absurd (cc (e)))

-- two keys are one or not
key_cases : (a b : ObjectKey) → (a ≡ b) ⊎ (a ≢ b)
key_cases a b = elim (id_cases a.id b.id) [
  | inr other ↦ inr (λ e. other (ap (λ (k : ObjectKey). k.id) e))
  | inl id ↦ elim (part_cases a.part b.part) [
    | inr other ↦ inr (λ e. other (ap (λ (k : ObjectKey). k.part) e))
    | inl part ↦ elim (nat_cases a.partition.0 b.partition.0) [
      | inr other ↦ inr (λ e. other (ap (λ (k : ObjectKey). k.partition.0) e))
      | inl number ↦ inl (one id part number)
    ]
  ]
]
  where
    one : a.id ≡ b.id → a.part ≡ b.part → a.partition.0 ≡ b.partition.0 → a ≡ b
    one id part number =
        let partition : a.partition ≡ b.partition = ap (λ (n : ℕ). (let p : PartitionId = record { 0 = n } in p)) number in
        ap (λ (i : SegmentId). (let k : ObjectKey = record { partition = a.partition; id = i; part = a.part } in k)) id
        ∙ ap (λ (q : Part). (let k : ObjectKey = record { partition = a.partition; id = b.id; part = q } in k)) part
        ∙ ap (λ (n : PartitionId). (let k : ObjectKey = record { partition = n; id = b.id; part = b.part } in k)) partition

-- what may be taken in two runs may be in one
then_may : (entries : List Entry) (old mid new : Objects) → MayRemove entries old mid → MayRemove entries mid new → MayRemove entries old new
then_may entries old mid new first second key = elim (second key) [
  | inr gone ↦ inr gone
  | inl same ↦ elim (first key) [
    | inl before ↦ inl (same ∙ before)
    | inr gone ↦ inr (gone.0, same ∙ gone.1)
  ]
]

-- one object that doesn't stay may be taken
pub one_may : {T : Type 0} (entries : List Entry) (key : ObjectKey) (result : Result T SweepRefusal) (old new : Objects) → stays entries key.id ≡ false → RemovesObject key result old new → MayRemove entries old new
one_may entries key result old new goes h q = elim (key_cases q key) [
  | inr other ↦ inl (h.taken.others q other)
  | inl same ↦ by h.done (ap old same) (ap (λ (k : ObjectKey). stays entries k.id) same ∙ goes) (ap new same ∙ h.taken.there)
]
  where
    by : (done : Bool) → old q ≡ old key → stays entries q.id ≡ false → new q ≡ made_if done removed (old key) → (new q ≡ old q) ⊎ ((stays entries q.id ≡ false) × (new q ≡ None))
    by true same away is = inr (away, is)
    by false same away is = inl (is ∙ sym same)

-- what is in a list with one key more
in_more : (q key : ObjectKey) (keys : List ObjectKey) → In q (keys ++ key ∷ []) → In q keys ⊎ (q ≡ key)
in_more q key [] there = elim there [
  | inl same ↦ inr same
  | inr none ↦ absurd none
]
in_more q key (k ∷ keys) there = elim there [
  | inl same ↦ inl (inl same)
  | inr rest ↦ elim (in_more q key keys rest) [
    | inl within ↦ inl (inr within)
    | inr same ↦ inr same
  ]
]

-- none of no keys
pub takes_none : (entries : List Entry) (objects : Objects) → TakesAll entries [] objects objects
takes_none entries objects = record { only = λ key. inl refl; gone = λ key there goes. absurd there }

-- one key more
more_keys : (keys : List ObjectKey) (i : ℕ) (key : ObjectKey) → i < length keys → key ≡ get_or keys i key → take (i + 1) keys ≡ take i keys ++ key ∷ []
more_keys keys i key low is = take_more keys i key low ∙ ap (λ (k : ObjectKey). take i keys ++ k ∷ []) (sym is)

-- its object doesn't stay
pub takes_next : {T : Type 0} (entries : List Entry) (keys : List ObjectKey) (i : ℕ) (key : ObjectKey) (result : Result T SweepRefusal) (old mid new : Objects) → i < length keys
    → key ≡ get_or keys i key → stays entries key.id ≡ false → TakesAll entries (take i keys) old mid → RemovesObject key result mid new → IsOk result
    → TakesAll entries (take (i + 1) keys) old new
takes_next entries keys i key result old mid new low is goes h one went =
    let also = one_may entries key result mid new goes one in
    let here : new key ≡ None = one.taken.there ∙ ap (λ (done : Bool). made_if done removed (mid key)) (one.went went) in
    rw (more_keys keys i key low is) (record {
      only = then_may entries old mid new h.only also;
      gone = λ q there away. elim (in_more q key (take i keys) there) [
        | inr same ↦ ap new same ∙ here
        | inl within ↦ elim (also q) [
          | inl same ↦ same ∙ h.gone q within away
          | inr gone ↦ gone.1
        ]
      ];
    })

-- its object stays
pub takes_over : (entries : List Entry) (keys : List ObjectKey) (i : ℕ) (key : ObjectKey) (old mid : Objects) → i < length keys
    → key ≡ get_or keys i key → stays entries key.id ≡ true → TakesAll entries (take i keys) old mid → TakesAll entries (take (i + 1) keys) old mid
takes_over entries keys i key old mid low is remains h = rw (more_keys keys i key low is) (record {
  only = h.only;
  gone = λ q there away. elim (in_more q key (take i keys) there) [
    | inr same ↦ absurd (let kept : stays entries q.id ≡ true = ap (λ (k : ObjectKey). stays entries k.id) same ∙ remains in cc (kept, away))
    | inl within ↦ h.gone q within away
  ];
})

-- some were taken, and the next may be
pub takes_some : {T U : Type 0} (entries : List Entry) (keys all : List ObjectKey) (key : ObjectKey) (result : Result T SweepRefusal) (answer : Result U SweepRefusal) (old mid new : Objects)
    → stays entries key.id ≡ false → TakesAll entries keys old mid → RemovesObject key result mid new → IsErr answer → TakesEach entries all answer old new
takes_some entries keys all key result (Ok x) old mid new goes h one is = absurd (cc (is))
takes_some entries keys all key result (Err why) old mid new goes h one is = then_may entries old mid new h.only (one_may entries key result mid new goes one)

-- the count of one key more
count_more : (entries : List Entry) (xs : List ObjectKey) (key : ObjectKey) (t : Bool) → not (stays entries key.id) ≡ t → count_swept entries (xs ++ key ∷ []) ≡ cond t (count_swept entries xs + 1) (count_swept entries xs)
count_more entries [] key true is = rw is (omega arith)
count_more entries [] key false is = rw is refl
count_more entries (x ∷ xs) key t is = by (not (stays entries x.id)) t (count_more entries xs key t is)
  where
    by : (u t : Bool) → count_swept entries (xs ++ key ∷ []) ≡ cond t (count_swept entries xs + 1) (count_swept entries xs)
        → length (cond u (x ∷ filter (λ (k : ObjectKey). not (stays entries k.id)) (xs ++ key ∷ [])) (filter (λ (k : ObjectKey). not (stays entries k.id)) (xs ++ key ∷ [])))
        ≡ cond t (length (cond u (x ∷ filter (λ (k : ObjectKey). not (stays entries k.id)) xs) (filter (λ (k : ObjectKey). not (stays entries k.id)) xs)) + 1)
        (length (cond u (x ∷ filter (λ (k : ObjectKey). not (stays entries k.id)) xs) (filter (λ (k : ObjectKey). not (stays entries k.id)) xs)))
    by true true rest = omega (arith, rest)
    by true false rest = omega (arith, rest)
    by false t rest = rest

pub counts_next : (entries : List Entry) (keys : List ObjectKey) (i : ℕ) (key : ObjectKey) → i < length keys → key ≡ get_or keys i key → stays entries key.id ≡ false
    → count_swept entries (take i keys) + 1 ≡ count_swept entries (take (i + 1) keys)
counts_next entries keys i key low is goes = sym (ap (count_swept entries) (more_keys keys i key low is) ∙ count_more entries (take i keys) key true (ap not goes))

pub counts_over : (entries : List Entry) (keys : List ObjectKey) (i : ℕ) (key : ObjectKey) → i < length keys → key ≡ get_or keys i key → stays entries key.id ≡ true
    → count_swept entries (take i keys) ≡ count_swept entries (take (i + 1) keys)
counts_over entries keys i key low is remains = sym (ap (count_swept entries) (more_keys keys i key low is) ∙ count_more entries (take i keys) key false (ap not remains))

-- no more keys go than there are
pub counts_within : (entries : List Entry) (keys : List ObjectKey) → count_swept entries keys ≤ length keys
counts_within entries [] = omega arith
counts_within entries (x ∷ xs) = by (not (stays entries x.id)) (counts_within entries xs)
  where
    by : (u : Bool) → count_swept entries xs ≤ length xs → length (cond u (x ∷ filter (λ (k : ObjectKey). not (stays entries k.id)) xs) (filter (λ (k : ObjectKey). not (stays entries k.id)) xs)) ≤ length (x ∷ xs)
    by true rest = omega (arith, rest)
    by false rest = omega (arith, rest)
