-- What a batch of the log says of an index entry. The relative offset counts from the index's base offset.
--
--   an offset index entry is right if a batch begins at its position and has its offset as the last one
--   a time index entry is right if a batch has its offset as the last one and its timestamp as the greatest one,
--   and every batch before it has only smaller timestamps
use Rattle.std.specs.Prelude.{ℕ, ℤ, ◌+◌, ◌-◌, ◌^◌, ◌==◌, ◌&&◌, nat_lt, int_lt, min, Bool, if◌then◌else◌}
use Rattle.std.specs.Prelude.{Option, Some, None}
use Rattle.std.specs.Int.{w64, cast_unsigned}
use Rattle.std.specs.Ordering.{int_eq}
use Rattle.dump_lines.specs.declared.seeing.Shown.{Shown}
use Rattle.dump_lines.specs.Fields.{last_of}

-- the offset of an entry, at most 2^64 - 1
abbrev pub offset_of : ℕ → ℕ → ℕ
offset_of base relative = min (base + relative) (2 ^ 64 - 1)

-- the last offset of a batch
abbrev pub last_in : Shown → ℕ
last_in one = cast_unsigned w64 (last_of one.head)

-- nothing where the entry is of a later batch, else whether it is right
abbrev pub offset_verdict : ℕ → ℕ × ℕ → Shown → Option Bool
offset_verdict base entry one =
    if nat_lt one.position entry.1 then None
    else Some (entry.1 == one.position && offset_of base entry.0 == last_in one)

-- the same, where the batches before have timestamps up to the greatest
abbrev pub time_verdict : ℕ → ℤ × ℕ → ℤ → Shown → Option Bool
time_verdict base entry greatest one =
    if nat_lt (last_in one) (offset_of base entry.1) then None
    else Some (int_lt greatest one.head.max_ts && offset_of base entry.1 == last_in one
    && int_eq entry.0 one.head.max_ts)
