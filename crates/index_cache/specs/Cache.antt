-- A cache of remote segments' offset indexes, each under its segment's id.
--
-- The pairs are in the order of their last use, the most recently used first. No id occurs twice.
--
-- Source: Kafka's RemoteIndexCache, with a bound on the number of indexes in place of one on their bytes.
use Rattle.std.specs.Prelude.{ℕ, ◌-◌, ◌≤◌, List, [], ◌∷◌, length, take, map, Some, None, if◌then◌else◌}
use Rattle.std.specs.declared.option.Option.{Option}
use Rattle.std.specs.List.{IsDistinct}
use Rattle.std.specs.Str.{bytes_eq}
use Rattle.sparse_index.specs.Offsets.{OffsetTable}

-- the bytes of a segment's id, and the segment's index
abbrev pub Pair : Type 0
Pair = List ℕ × OffsetTable

-- how many pairs there may be, and the pairs
pub record Cache : Type 0 where
  pub size : ℕ
  pub pairs : List Pair

-- room for a pair at least, no more pairs than there may be, and no id twice
pub record IsCache (cache : Cache) : Type 0 where
  pub room : 1 ≤ cache.size
  pub at_most : length cache.pairs ≤ cache.size
  pub once : IsDistinct bytes_eq (map (λ pair. pair.0) cache.pairs)

-- the index of an id
abbrev pub found : List ℕ → List Pair → Option OffsetTable
found id [] = None
found id (pair ∷ pairs) = if bytes_eq id pair.0 then Some pair.1 else found id pairs

-- the pairs but the id's
abbrev pub others : List ℕ → List Pair → List Pair
others id [] = []
others id (pair ∷ pairs) = if bytes_eq id pair.0 then pairs else pair ∷ others id pairs

-- the id's pair in front, where it has one
abbrev pub in_front : Option OffsetTable → List ℕ → List Pair → List Pair
in_front None id pairs = pairs
in_front (Some index) id pairs = (id, index) ∷ others id pairs

-- the id's pair was brought to the front
abbrev pub brought_front : Cache → List ℕ → Cache
brought_front cache id = record cache { pairs = in_front (found id cache.pairs) id cache.pairs }

-- what stays after a new pair: all but an older pair of the id, or else all but the last where the list is full
abbrev pub staying : Option OffsetTable → Cache → List ℕ → List Pair
staying (Some older) cache id = others id cache.pairs
staying None cache id = take (cache.size - 1) cache.pairs

-- the index is kept under the id, in front
abbrev pub kept : Cache → List ℕ → OffsetTable → Cache
kept cache id index = record cache { pairs = (id, index) ∷ staying (found id cache.pairs) cache id }
