-- The offset index of a segment: entries of 8 bytes, big endian.
--
--   at  size  field
--    0     4  relative offset: a batch's last offset, less the segment's base offset
--    4     4  position: where that batch begins in the segment
--
-- Both columns rise strictly. Nothing follows the last entry.
--
-- Source: Kafka's OffsetIndex, an entry of two i32. None is negative, so both are below 2^31.
use Rattle.std.specs.Prelude.{ℕ, ◌+◌, ◌^◌, ◌<◌, nat_le, nat_lt, ◌&&◌, Bool, List, [], ◌∷◌, ◌++◌, filter, Some, None}
use Rattle.std.specs.Int.{w32, to_be_bytes}
use Rattle.std.specs.declared.option.Option.{Option}
use Rattle.sparse_index.specs.Entries.{IsChain, last_passing}

-- an offset index: the segment's base offset, and entries of relative offset and position
pub record OffsetTable : Type 0 where
  pub base : ℕ
  pub entries : List (ℕ × ℕ)

-- the index with one entry more
abbrev pub with_entry : OffsetTable → ℕ × ℕ → OffsetTable
with_entry index entry = record index { entries = index.entries ++ entry ∷ [] }

-- both numbers are below 2^31
abbrev pub FitsEntry : ℕ × ℕ → Type 0
FitsEntry entry = (entry.0 < 2 ^ 31) × (entry.1 < 2 ^ 31)

-- both numbers rise
abbrev pub Rises : ℕ × ℕ → ℕ × ℕ → Type 0
Rises entry next = (entry.0 < next.0) × (entry.1 < next.1)

-- the entries of an offset index
abbrev pub AreOffsets : List (ℕ × ℕ) → Type 0
AreOffsets entries = IsChain FitsEntry Rises entries

-- the entry is at or below an offset
abbrev pub is_up_to : ℕ → ℕ → ℕ × ℕ → Bool
is_up_to base offset entry = nat_le (base + entry.0) offset

-- the last entry at or below an offset
abbrev pub floor_of : OffsetTable → ℕ → Option (ℕ × ℕ)
floor_of index offset = last_passing (is_up_to index.base offset) index.entries

-- an entry's offset and position, or the segment's beginning
abbrev pub place_of : ℕ → Option (ℕ × ℕ) → ℕ × ℕ
place_of base None = (base, 0)
place_of base (Some entry) = (base + entry.0, entry.1)

-- where to look for an offset
abbrev pub find : OffsetTable → ℕ → ℕ × ℕ
find index offset = place_of index.base (floor_of index offset)

-- the entries of the batches that begin before a position
abbrev pub cut_to : OffsetTable → ℕ → OffsetTable
cut_to index position = record index { entries = filter (λ entry. nat_lt entry.1 position) index.entries }

-- offset, then position
abbrev pub entry_bytes : ℕ × ℕ → List ℕ
entry_bytes entry = to_be_bytes w32 entry.0 ++ to_be_bytes w32 entry.1

-- whether an entry may follow the last one
abbrev pub may_follow : Option (ℕ × ℕ) → ℕ × ℕ → Bool
may_follow None entry = nat_lt entry.0 (2 ^ 31) && nat_lt entry.1 (2 ^ 31)
may_follow (Some last) entry =
    nat_lt entry.0 (2 ^ 31) && nat_lt entry.1 (2 ^ 31) && nat_lt last.0 entry.0 && nat_lt last.1 entry.1
