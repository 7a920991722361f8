-- The time index of a segment: entries of 12 bytes, big endian.
--
--   at  size  field
--    0     8  timestamp: the greatest so far, a signed number
--    8     4  relative offset: the last offset of the first batch that has it, less the base offset
--
-- Timestamps rise strictly, offsets don't fall. Nothing follows the last entry.
--
-- Source: Kafka's TimeIndex, an entry of an i64 and an i32. None is negative.
use Rattle.std.specs.Prelude.{◌≡◌, ℕ, ◌+◌, ◌^◌, ◌<◌, ◌≤◌, nat_le, nat_lt, ℤ, pos, ◌<ℤ◌, ◌≤ℤ◌, int_le, int_lt}
use Rattle.std.specs.Prelude.{◌&&◌, Bool, List, [], ◌∷◌, ◌++◌, length, Some, None, FitsSigned}
use Rattle.std.specs.Int.{w32, w64, to_be_bytes, cast_unsigned}
use Rattle.std.specs.List.{zip}
use Rattle.std.specs.Option.{option_map}
use Rattle.std.specs.declared.option.Option.{Option}
use Rattle.sparse_index.specs.Entries.{IsChain, last_passing}

-- a time index: the segment's base offset, and entries of timestamp and relative offset
pub record TimeTable : Type 0 where
  pub base : ℕ
  pub entries : List (ℤ × ℕ)

-- the index with one entry more
abbrev pub with_moment : TimeTable → ℤ × ℕ → TimeTable
with_moment index entry = record index { entries = index.entries ++ entry ∷ [] }

-- the timestamp is an i64 and not negative, the offset is below 2^31
abbrev pub FitsMoment : ℤ × ℕ → Type 0
FitsMoment entry = FitsSigned w64 entry.0 × (pos 0 ≤ℤ entry.0) × (entry.1 < 2 ^ 31)

-- the timestamp rises, and the offset doesn't fall
abbrev pub RisesInTime : ℤ × ℕ → ℤ × ℕ → Type 0
RisesInTime entry next = (entry.0 <ℤ next.0) × (entry.1 ≤ next.1)

-- the entries of a time index
abbrev pub AreMoments : List (ℤ × ℕ) → Type 0
AreMoments entries = IsChain FitsMoment RisesInTime entries

-- the columns of a time index: as many offsets as timestamps, and their pairs are its entries
pub record AreTimeColumns (base : ℕ) (times : List ℤ) (offsets : List ℕ) : Type 0 where
  pub base_fits : base ≤ 2 ^ 62
  pub even : length times ≡ length offsets
  pub entries : AreMoments (zip times offsets)

-- the index of these columns
abbrev pub time_table : ℕ → List ℤ → List ℕ → TimeTable
time_table base times offsets = record { base = base; entries = zip times offsets }

-- an entry's timestamp and offset
abbrev pub moment_of : ℕ → ℤ × ℕ → ℤ × ℕ
moment_of base entry = (entry.0, base + entry.1)

-- the last entry at or below a timestamp
abbrev pub find_time : TimeTable → ℤ → Option (ℤ × ℕ)
find_time index ts = option_map (moment_of index.base) (last_passing (λ entry. int_le entry.0 ts) index.entries)

-- the last entry below a timestamp
abbrev pub below_time : TimeTable → ℤ → Option (ℤ × ℕ)
below_time index ts = option_map (moment_of index.base) (last_passing (λ entry. int_lt entry.0 ts) index.entries)

-- timestamp, then offset
abbrev pub moment_bytes : ℤ × ℕ → List ℕ
moment_bytes entry = to_be_bytes w64 (cast_unsigned w64 entry.0) ++ to_be_bytes w32 entry.1

-- whether an entry may follow the last one
abbrev pub moment_follows : Option (ℤ × ℕ) → ℤ × ℕ → Bool
moment_follows None entry = int_le (pos 0) entry.0 && nat_lt entry.1 (2 ^ 31)
moment_follows (Some last) entry =
    int_le (pos 0) entry.0 && nat_lt entry.1 (2 ^ 31) && int_lt last.0 entry.0 && nat_le last.1 entry.1
