-- The end offset of the flushed batches of a segment.
use Rattle.std.specs.Prelude.{ℕ, ◌+◌, ◌-◌, ◌^◌, nat_lt, min, if◌then◌else◌}
use Rattle.std.specs.Int.{w64, cast_unsigned}
use Rattle.segment_file.specs.Walk.{size_in}
use Rattle.dump_lines.specs.declared.seeing.Shown.{Shown}
use Rattle.dump_lines.specs.Fields.{last_of}

-- the end offset after a batch, where the segment's first bytes are flushed: after the batch if it is among them
abbrev pub end_after : ℕ → ℕ → Shown → ℕ
end_after len end one =
    if nat_lt len (min (one.position + size_in one.head) (2 ^ 64 - 1)) then end
    else min (cast_unsigned w64 (last_of one.head) + 1) (2 ^ 64 - 1)
