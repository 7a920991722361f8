-- Entries that are kept as columns.
use Rattle.std.specs.Prelude.{◌≡◌, ℕ, ◌^◌, ◌≤◌, List, length}
use Rattle.std.specs.List.{zip}
use Rattle.sparse_index.specs.Offsets.{OffsetTable, AreOffsets}

-- the columns of an offset index: as many positions as offsets, and their pairs are its entries
pub record AreColumns (base : ℕ) (offsets positions : List ℕ) : Type 0 where
  pub base_fits : base ≤ 2 ^ 62
  pub even : length offsets ≡ length positions
  pub entries : AreOffsets (zip offsets positions)

-- the index of these columns
abbrev pub table : ℕ → List ℕ → List ℕ → OffsetTable
table base offsets positions = record { base = base; entries = zip offsets positions }
