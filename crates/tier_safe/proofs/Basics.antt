-- Ids, keys and states distinguished, and the desk's states.
use Rattle.std.proofs.Common.{◌≡◌, ◌≢◌, ◌⊎◌, inl, inr, ◌∙◌, ap, refl, subst, ℕ, zero, suc, ◌<◌, ◌≤◌, ◌==◌, Bool, true, false, List, [], ◌∷◌, length, Option, Some, None, slice_get, arith}
use Rattle.std.specs.Str.{bytes_eq}
use Rattle.std.proofs.lemmas.Bool.Decides.{nat_tests}
use Rattle.tier_base.specs.declared.names.SegmentId.{SegmentId}
use Rattle.tier_base.specs.declared.names.PartitionId.{PartitionId}
use Rattle.tier_base.specs.declared.plain.Part.{Part}
use Rattle.tier_base.specs.declared.plain.Part.TheVariants.{Log, Index, TimeIndex, Epochs, Pack}
use Rattle.tier_base.specs.declared.plain.State.{State}
use Rattle.tier_base.specs.declared.plain.State.TheVariants.{CopyStarted, CopyFinished, DeleteStarted, DeleteFinished}
use Rattle.tier_base.specs.declared.object_key.ObjectKey.{ObjectKey}
use Rattle.log_terms.proofs.Lists.{within}
use Rattle.object_store.specs.Content.{Objects, MadeAt}
use Rattle.object_store.specs.Place.{key_of, keys_of}
use Rattle.segment_meta.specs.Spelling.{state_code}
use Rattle.remote_view.proofs.Ids.{same_id, bytes_self}
use Rattle.tier_safe.specs.Copies.{is_deleted}

pub id_cases : (a b : SegmentId) → (a ≡ b) ⊎ (a ≢ b)
id_cases a b = by (bytes_eq a.0 b.0) refl
  where
    by : (t : Bool) → bytes_eq a.0 b.0 ≡ t → (a ≡ b) ⊎ (a ≢ b)
    by true is = inl (same_id a b is)
    by false is = inr (λ e. let yes : bytes_eq a.0 b.0 ≡ true = rw e (bytes_self b.0) in absurd (cc (yes, is)))

pub nat_cases : (a b : ℕ) → (a ≡ b) ⊎ (a ≢ b)
nat_cases a b = by (a == b) refl
  where
    by : (t : Bool) → (a == b) ≡ t → (a ≡ b) ⊎ (a ≢ b)
    by true is = inl (grind (arith, nat_tests, is))
    by false is = inr (grind (arith, nat_tests, is))

pub part_cases : (a b : Part) → (a ≡ b) ⊎ (a ≢ b)
part_cases Log Log = inl refl
part_cases Index Index = inl refl
part_cases TimeIndex TimeIndex = inl refl
part_cases Epochs Epochs = inl refl
part_cases Pack Pack = inl refl
part_cases a b = inr (λ e. absurd (cc (e)))

pub key_cases : (a b : ObjectKey) → (a ≡ b) ⊎ (a ≢ b)
key_cases a b = elim (id_cases a.id b.id) [
  | inr other ↦ inr (λ e. other (ap (λ (k : ObjectKey). k.id) e))
  | inl id ↦ elim (part_cases a.part b.part) [
    | inr other ↦ inr (λ e. other (ap (λ (k : ObjectKey). k.part) e))
    | inl part ↦ elim (nat_cases a.partition.0 b.partition.0) [
      | inr other ↦ inr (λ e. other (ap (λ (k : ObjectKey). k.partition.0) e))
      | inl number ↦ inl (one id part number)
    ]
  ]
]
  where
    one : a.id ≡ b.id → a.part ≡ b.part → a.partition.0 ≡ b.partition.0 → a ≡ b
    one id part number =
        let partition : a.partition ≡ b.partition = ap (λ (n : ℕ). (let p : PartitionId = record { 0 = n } in p)) number in
        ap (λ (i : SegmentId). (let k : ObjectKey = record { partition = a.partition; id = i; part = a.part } in k)) id
        ∙ ap (λ (q : Part). (let k : ObjectKey = record { partition = a.partition; id = b.id; part = q } in k)) part
        ∙ ap (λ (n : PartitionId). (let k : ObjectKey = record { partition = n; id = b.id; part = b.part } in k)) partition

-- an object after one was changed
pub object_at : (key : ObjectKey) (made : Option (List ℕ) → Option (List ℕ)) (old new : Objects) (k : ObjectKey) → MadeAt key made old new
    → ((k ≡ key) × (new k ≡ made (old key))) ⊎ ((k ≢ key) × (new k ≡ old k))
object_at key made old new k m = elim (key_cases k key) [
  | inl same ↦ inl (same, ap new same ∙ m.there)
  | inr other ↦ inr (other, m.others k other)
]

-- a segment's keys

-- each key is that of its part
abbrev AreOwn : PartitionId → SegmentId → List ObjectKey → Type 0
AreOwn partition id [] = Unit {0}
AreOwn partition id (key ∷ keys) = (key ≡ key_of partition id key.part) × AreOwn partition id keys

own_at : (partition : PartitionId) (id : SegmentId) (keys : List ObjectKey) (n : ℕ) (key : ObjectKey) → AreOwn partition id keys → slice_get keys n ≡ Some key
    → key ≡ key_of partition id key.part
own_at partition id [] n key own at = absurd cc
own_at partition id (k ∷ keys) zero key own at = let same : k ≡ key = cc (at) in subst (λ (j : ObjectKey). j ≡ key_of partition id j.part) same own.0
own_at partition id (k ∷ keys) (suc n) key own at = own_at partition id keys n key own.1 at

pub key_is : (partition : PartitionId) (id : SegmentId) (packed : Bool) (n : ℕ) (key : ObjectKey) → slice_get (keys_of partition id packed) n ≡ Some key
    → key ≡ key_of partition id key.part
key_is partition id false n key at = own_at partition id (keys_of partition id false) n key (refl, (refl, (refl, (refl, tt)))) at
key_is partition id true n key at = own_at partition id (keys_of partition id true) n key (refl, tt) at

-- a segment has a key
pub some_keys : (partition : PartitionId) (id : SegmentId) (packed : Bool) → 0 < length (keys_of partition id packed)
some_keys partition id false = omega arith
some_keys partition id true = omega arith

-- and four at most
few_keys : (partition : PartitionId) (id : SegmentId) (packed : Bool) → length (keys_of partition id packed) ≤ 4
few_keys partition id false = omega arith
few_keys partition id true = omega arith

pub key_low : (partition : PartitionId) (id : SegmentId) (packed : Bool) (n : ℕ) (key : ObjectKey) → slice_get (keys_of partition id packed) n ≡ Some key → n < 4
key_low partition id packed n key at =
    let low = within (keys_of partition id packed) n key at in
    let few = few_keys partition id packed in
    omega (arith, low, few)

-- states

pub deleted_rises : (old new : State) → state_code old ≤ state_code new → is_deleted old ≡ true → is_deleted new ≡ true
deleted_rises DeleteStarted DeleteStarted h d = refl
deleted_rises DeleteStarted DeleteFinished h d = refl
deleted_rises DeleteFinished DeleteFinished h d = refl
deleted_rises DeleteStarted CopyStarted h d = absurd (omega (arith, h))
deleted_rises DeleteStarted CopyFinished h d = absurd (omega (arith, h))
deleted_rises DeleteFinished new h d = by new h
  where
    by : (new : State) → state_code DeleteFinished ≤ state_code new → is_deleted new ≡ true
    by DeleteStarted h = refl
    by DeleteFinished h = refl
    by CopyStarted h = absurd (omega (arith, h))
    by CopyFinished h = absurd (omega (arith, h))
deleted_rises old new h d = absurd (cc)

pub not_finished : (s : State) → is_deleted s ≡ true → s ≢ CopyFinished
not_finished DeleteStarted d e = absurd (cc)
not_finished DeleteFinished d e = absurd (cc)
not_finished s d e = absurd (cc)

pub not_started : (s : State) → is_deleted s ≡ true → s ≢ CopyStarted
not_started DeleteStarted d e = absurd (cc)
not_started DeleteFinished d e = absurd (cc)
not_started s d e = absurd (cc)

pub state_cases : (s : State) → (s ≡ CopyStarted) ⊎ (s ≡ CopyFinished) ⊎ (is_deleted s ≡ true)
state_cases CopyStarted = inl refl
state_cases CopyFinished = inr (inl refl)
state_cases DeleteStarted = inr (inr refl)
state_cases DeleteFinished = inr (inr refl)

pub not_started_rises : (old new : State) → state_code old ≤ state_code new → old ≢ CopyStarted → new ≢ CopyStarted
not_started_rises CopyStarted new h ne e = absurd (ne refl)
not_started_rises CopyFinished new h ne e = absurd (omega (arith, h, ap state_code e))
not_started_rises DeleteStarted new h ne e = absurd (omega (arith, h, ap state_code e))
not_started_rises DeleteFinished new h ne e = absurd (omega (arith, h, ap state_code e))

-- one value of an option
pub one_some : {A : Type 0} (o : Option A) (x y : A) → o ≡ Some x → o ≡ Some y → x ≡ y
one_some o x y h k = cc

pub some_or_none : {A : Type 0} (o : Option A) → (o ≡ None) ⊎ ((x : A) × (o ≡ Some x))
some_or_none None = inl refl
some_or_none (Some x) = inr (x, refl)
