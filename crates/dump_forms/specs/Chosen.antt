-- Which batches `--from` and `--to` select: those that may have an offset in the range.
use Rattle.std.specs.Prelude.{ℕ, ℤ, pos, int_le, int_lt, not, ◌&&◌, ◌||◌, Bool}
use Rattle.dump_lines.specs.declared.seeing.Shown.{Shown}
use Rattle.dump_lines.specs.Fields.{last_of}

-- an offset is below a bound; a negative one, which no broker writes, isn't
abbrev pub is_below : ℤ → ℕ → Bool
is_below offset bound = int_le (pos 0) offset && int_lt offset (pos bound)

-- an offset is above a bound
abbrev pub is_above : ℤ → ℕ → Bool
is_above offset bound = int_lt (pos bound) offset

-- the batch neither ends below the range nor begins above it
abbrev pub is_chosen : ℕ → ℕ → Shown → Bool
is_chosen from to one = not (is_below (last_of one.head) from || is_above one.head.base_offset to)
