-- How long the parts of a packed segment are, whose one object has them one after another.
--
-- The bytes of a layout, big endian:
--
--   at  size  field
--    0     1  1
--    1     4  length of the log segment
--    5     4  length of the offset index
--    9     4  length of the time index
--   13     4  length of the leader epochs
--
-- They are the segment's custom metadata (KIP-917, CustomMetadata).
use Rattle.std.specs.Prelude.{ℕ, ◌+◌, ◌<◌, ◌^◌, ◌==◌, ◌&&◌, if◌then◌else◌, List, [], ◌∷◌}
use Rattle.std.specs.Prelude.{◌++◌, length, slice_range, Option, Some, None}
use Rattle.std.specs.Int.{w32, to_be_bytes, from_be_bytes}
use Rattle.tier_base.specs.declared.layout.Layout.{Layout}

-- the bytes of a layout
unfoldable pub layout_bytes : Layout → List ℕ
layout_bytes l =
    1 ∷ (to_be_bytes w32 l.log ++ (to_be_bytes w32 l.index ++ (to_be_bytes w32 l.times ++ to_be_bytes w32 l.epochs)))

-- the number of the four bytes at a place
abbrev pub length_at : ℕ → List ℕ → ℕ
length_at at bytes = from_be_bytes w32 (slice_range bytes at (at + 4))

-- the layout whose lengths are in these fields
abbrev pub lengths_in : List ℕ → Layout
lengths_in fields = record {
  log = length_at 0 fields;
  index = length_at 4 fields;
  times = length_at 8 fields;
  epochs = length_at 12 fields;
}

-- the layout that bytes are, or none where they are none
abbrev pub layout_in : List ℕ → Option Layout
layout_in [] = None
layout_in (version ∷ fields) = if (version == 1) && (length fields == 16) then Some (lengths_in fields) else None

-- each length is below 2^32
pub record LayoutFits (l : Layout) : Type 0 where
  pub log : l.log < 2 ^ 32
  pub index : l.index < 2 ^ 32
  pub times : l.times < 2 ^ 32
  pub epochs : l.epochs < 2 ^ 32
