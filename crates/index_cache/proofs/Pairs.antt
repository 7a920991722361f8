-- A cache's pairs as the kit's cache has them: what is found, brought to the front, kept.
use Rattle.std.proofs.Common.{◌≡◌, ℕ, ◌-◌, true, false, List, [], ◌∷◌, take, Option, Some, None, option_map, refl, sym, ap, cond}
use Rattle.std.specs.Option.{option_map_or}
use Rattle.std.specs.Map.{lookup, lookup_entry, remove_entry}
use Rattle.std.specs.Str.{bytes_eq}
use Rattle.std.proofs.lemmas.Slice.Eq.{bytes_eq-Decides}
use Rattle.sparse_index.specs.Offsets.{OffsetTable}
use Rattle.lru.specs.LruCache.{lru_cache, promoted, put_entries}
use Rattle.lru.proofs.CallerLemmas.{Contains-lookup_entry}
use Rattle.index_cache.specs.Cache.{Pair, Cache, found, others, in_front, staying}

-- what is found is the value that is looked up
pub found-lookup : (id : List ℕ) (pairs : List Pair) → found id pairs ≡ lookup (bytes_eq id) pairs
found-lookup id [] = refl
found-lookup id (pair ∷ pairs) = elim (bytes_eq id pair.0) as (λ b. cond b (Some pair.1) (found id pairs) ≡ cond b (Some pair.1) (lookup (bytes_eq id) pairs)) [
  | true ↦ refl
  | false ↦ found-lookup id pairs
]

-- it is the index of the first pair of that id
found-entry : (id : List ℕ) (pairs : List Pair) → found id pairs ≡ option_map (λ (pair : Pair). pair.1) (lookup_entry (bytes_eq id) pairs)
found-entry id [] = refl
found-entry id (pair ∷ pairs) = elim (bytes_eq id pair.0) as (λ b. cond b (Some pair.1) (found id pairs) ≡ option_map (λ (p : Pair). p.1) (cond b (Some pair) (lookup_entry (bytes_eq id) pairs))) [
  | true ↦ refl
  | false ↦ found-entry id pairs
]

-- the other pairs are those without the id's entry
others-removed : (id : List ℕ) (pairs : List Pair) → remove_entry (bytes_eq id) pairs ≡ others id pairs
others-removed id [] = refl
others-removed id (pair ∷ pairs) = elim (bytes_eq id pair.0) as (λ b. cond b pairs (pair ∷ remove_entry (bytes_eq id) pairs) ≡ cond b pairs (pair ∷ others id pairs)) [
  | true ↦ refl
  | false ↦ ap (λ rest. pair ∷ rest) (others-removed id pairs)
]

-- the entry that is looked up has the id
key-of : (id : List ℕ) (pairs : List Pair) (pair : Pair) → lookup_entry (bytes_eq id) pairs ≡ Some pair → pair.0 ≡ id
key-of id pairs pair h = sym ((bytes_eq-Decides id pair.0).0 (Contains-lookup_entry (bytes_eq id) pairs pair h).1)

-- the entry that is looked up, promoted, is the id's pair in front
fronted : (id : List ℕ) (pairs : List Pair) (o : Option Pair) → lookup_entry (bytes_eq id) pairs ≡ o → option_map_or (λ e. e ∷ remove_entry (bytes_eq id) pairs) o pairs ≡ in_front (option_map (λ (pair : Pair). pair.1) o) id pairs
fronted id pairs None h = refl
fronted id pairs (Some pair) h = rw (others-removed id pairs) (ap (λ (key : List ℕ). (key, pair.1) ∷ others id pairs) (key-of id pairs pair h))

-- the promoted entry is the id's pair in front
pub promoted-front : (id : List ℕ) (pairs : List Pair) → promoted (bytes_eq id) pairs ≡ in_front (found id pairs) id pairs
promoted-front id pairs = rw (found-entry id pairs) (fronted id pairs (lookup_entry (bytes_eq id) pairs) refl)

-- the entry that is looked up makes room for the new pair, or else the last does
stays : (cache : Cache) (id : List ℕ) (index : OffsetTable) (o : Option Pair) → lookup_entry (bytes_eq id) cache.pairs ≡ o →
    option_map_or (λ e. (e.0, index) ∷ remove_entry (bytes_eq id) cache.pairs) o ((id, index) ∷ take (cache.size - 1) cache.pairs) ≡ (id, index) ∷ staying (option_map (λ (pair : Pair). pair.1) o) cache id
stays cache id index None h = refl
stays cache id index (Some pair) h = rw (others-removed id cache.pairs) (ap (λ (key : List ℕ). (key, index) ∷ others id cache.pairs) (key-of id cache.pairs pair h))

-- what is put is kept
pub put-kept : (pairs : List Pair) (size : ℕ) (id : List ℕ) (index : OffsetTable) →
    put_entries bytes_eq (lru_cache pairs size) id index ≡ (id, index) ∷ staying (found id pairs) (record { size = size; pairs = pairs }) id
put-kept pairs size id index = rw (found-entry id pairs) (stays (record { size = size; pairs = pairs }) id index (lookup_entry (bytes_eq id) pairs) refl)
