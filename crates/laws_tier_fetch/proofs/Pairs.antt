-- The pairs of a cache, before and after one is used or kept.
use Rattle.std.proofs.Common.{◌≡◌, ◌⊎◌, inl, inr, ◌∙◌, sym, ap, subst, refl, ℕ, zero, suc, ◌-◌, Bool, true, false, cond, List, [], ◌∷◌, take, map, Option, Some, None}
use Rattle.std.specs.Str.{bytes_eq}
use Rattle.std.proofs.lemmas.Slice.Eq.{bytes_eq-Decides}
use Rattle.tier_base.specs.declared.names.SegmentId.{SegmentId}
use Rattle.tier_base.specs.Told.{In}
use Rattle.sparse_index.specs.Offsets.{OffsetTable}
use Rattle.index_cache.specs.Cache.{Pair, Cache, found, others, in_front, staying, brought_front, kept}
use Rattle.laws_tier_fetch.specs.Seeking.{under_id, indexes_in}

-- a pair that was first, or after it
behind : (x : SegmentId × OffsetTable) (pair : Pair) (xs ys : List Pair) → (In x (map under_id xs) → In x (map under_id ys)) → In x (map under_id (pair ∷ xs)) → In x (map under_id (pair ∷ ys))
behind x pair xs ys more (inl first) = inl first
behind x pair xs ys more (inr there) = inr (more there)

-- the index that is found is in the cache
pub found_in : (id : SegmentId) (index : OffsetTable) (pairs : List Pair) → found id.0 pairs ≡ Some index → In (id, index) (map under_id pairs)
found_in id index [] is = absurd (cc (is))
found_in id index (pair ∷ pairs) is = by (bytes_eq id.0 pair.0) refl is (found_in id index pairs)
  where
    by : (t : Bool) → bytes_eq id.0 pair.0 ≡ t → cond t (Some pair.1) (found id.0 pairs) ≡ Some index → (found id.0 pairs ≡ Some index → In (id, index) (map under_id pairs))
        → In (id, index) (map under_id (pair ∷ pairs))
    by true same is more =
        let key : id.0 ≡ pair.0 = (bytes_eq-Decides id.0 pair.0).0 same in
        let own : pair.1 ≡ index = cc (is) in
        inl (ap (λ (k : List ℕ). (let s : SegmentId = record { 0 = k } in (s, index))) key ∙ ap (λ (t : OffsetTable). (let s : SegmentId = record { 0 = pair.0 } in (s, t))) (sym own))
    by false same is more = inr (more is)

-- the other pairs are in it
others_in : (id : List ℕ) (x : SegmentId × OffsetTable) (pairs : List Pair) → In x (map under_id (others id pairs)) → In x (map under_id pairs)
others_in id x [] there = there
others_in id x (pair ∷ pairs) there = by (bytes_eq id pair.0) there (others_in id x pairs)
  where
    by : (t : Bool) → In x (map under_id (cond t pairs (pair ∷ others id pairs))) → (In x (map under_id (others id pairs)) → In x (map under_id pairs)) → In x (map under_id (pair ∷ pairs))
    by true there more = inr there
    by false there more = behind x pair (others id pairs) pairs more there

-- so are the first ones
first_in : (n : ℕ) (x : SegmentId × OffsetTable) (pairs : List Pair) → In x (map under_id (take n pairs)) → In x (map under_id pairs)
first_in zero x pairs there = absurd there
first_in (suc n) x [] there = there
first_in (suc n) x (pair ∷ pairs) there = behind x pair (take n pairs) pairs (first_in n x pairs) there

-- a cache whose pair was brought to the front has no further one
pub brought_in : (id : SegmentId) (index : OffsetTable) (cache : Cache) → found id.0 cache.pairs ≡ Some index → (x : SegmentId × OffsetTable)
    → In x (indexes_in (brought_front cache id.0)) → In x (indexes_in cache)
brought_in id index cache is x there =
    by (subst (λ (o : Option OffsetTable). In x (map under_id (in_front o id.0 cache.pairs))) is there)
  where
    by : In x (map under_id (in_front (Some index) id.0 cache.pairs)) → In x (indexes_in cache)
    by (inl own) = subst (λ (y : SegmentId × OffsetTable). In y (indexes_in cache)) (sym own) (found_in id index cache.pairs is)
    by (inr other) = others_in id.0 x cache.pairs other

staying_in : (id : List ℕ) (cache : Cache) (older : Option OffsetTable) (x : SegmentId × OffsetTable) → In x (map under_id (staying older cache id)) → In x (indexes_in cache)
staying_in id cache (Some older) x there = others_in id x cache.pairs there
staying_in id cache None x there = first_in (cache.size - 1) x cache.pairs there

-- one that keeps an index has that one more
pub kept_in : (id : SegmentId) (index : OffsetTable) (cache : Cache) (x : SegmentId × OffsetTable) → In x (indexes_in (kept cache id.0 index))
    → In x (indexes_in cache) ⊎ (x ≡ (id, index))
kept_in id index cache x (inl own) = inr own
kept_in id index cache x (inr there) = inl (staying_in id.0 cache (found id.0 cache.pairs) x there)
