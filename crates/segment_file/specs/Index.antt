-- The sparse indexes of a log segment, as they grow with its batches.
--
-- Just before a batch is appended, an offset entry is due where more than the interval's bytes were appended since the
-- last entry, or since the segment's beginning. It holds the batch's last offset and its position. With it a time entry
-- is due where the greatest timestamp so far, the batch's own among them, is above the last time entry's, or above -1.
-- It holds that timestamp and the last offset of the first batch that has it. Closing a segment makes one more time
-- entry under the same condition.
--
-- Source: Kafka's LogSegment, append and onBecomeInactiveSegment. Its timestamp of none is -1 too.
use Rattle.std.specs.Prelude.{ℕ, ◌+◌, ◌-◌, nat_lt, Bool, if◌then◌else◌, ℤ, negsuc}
use Rattle.std.specs.Prelude.{int_lt, List, [], ◌∷◌, ◌++◌, length, Some, None}
use Rattle.std.specs.Int.{w32, w64, cast_unsigned}
use Rattle.std.specs.declared.option.Option.{Option}
use Rattle.log_terms.specs.Batch.{last_of, max_ts_of}
use Rattle.record_batch.specs.declared.head.Head.{Head}
use Rattle.sparse_index.specs.Entries as index
use Rattle.sparse_index.specs.Offsets.{OffsetTable}
use Rattle.sparse_index.specs.Times.{TimeTable}
use Rattle.segment_file.specs.declared.placed.Placed.{Placed}
use Rattle.segment_file.specs.Walk.{size_in}

-- a batch after so many bytes of its segment
abbrev pub placed : ℕ → List ℕ → Placed
placed at batch = record { last = last_of batch; max_ts = max_ts_of batch; to = at + length batch }

-- the same, as the batch's head gives it
abbrev pub placed_in : ℕ → Head → Placed
placed_in at head = record {
  last = cast_unsigned w64 head.base_offset + cast_unsigned w32 head.last_offset_delta;
  max_ts = head.max_ts;
  to = at + size_in head;
}

-- batches one after another, the first after so many bytes
abbrev pub placed_from : ℕ → List (List ℕ) → List Placed
placed_from at [] = []
placed_from at (batch ∷ batches) = placed at batch ∷ placed_from (at + length batch) batches

-- where the last entry's batch begins, or the segment
abbrev pub begun_at : Option (ℕ × ℕ) → ℕ
begun_at None = 0
begun_at (Some entry) = entry.1

-- the last time entry's timestamp, or -1
abbrev pub time_of : Option (ℤ × ℕ) → ℤ
time_of None = negsuc 0
time_of (Some entry) = entry.0

-- more than the interval's bytes since the last entry, in a segment of so many bytes
abbrev pub is_due : ℕ → List (ℕ × ℕ) → ℕ → Bool
is_due interval entries size = nat_lt interval (size - begun_at (index.last_of entries))

-- the offset entries before a batch of this last offset is appended
abbrev pub with_offset : ℕ → ℕ → List (ℕ × ℕ) → ℕ → ℕ → List (ℕ × ℕ)
with_offset base interval entries size last =
    if is_due interval entries size then entries ++ (last - base, size) ∷ [] else entries

-- the time entries with that of the greatest timestamp so far
abbrev pub with_time : ℕ → List (ℤ × ℕ) → ℤ × ℕ → List (ℤ × ℕ)
with_time base moments top =
    if int_lt (time_of (index.last_of moments)) top.0 then moments ++ (top.0, top.1 - base) ∷ [] else moments

-- the greatest timestamp with a batch more, and the last offset of the first batch that has it
abbrev pub raised : ℤ × ℕ → Placed → ℤ × ℕ
raised top batch = if int_lt top.0 batch.max_ts then (batch.max_ts, batch.last) else top

-- indexes on their way: the bytes so far, the entries, the greatest timestamp
pub record Marks : Type 0 where
  pub size : ℕ
  pub entries : List (ℕ × ℕ)
  pub moments : List (ℤ × ℕ)
  pub top : ℤ × ℕ

-- at a segment's beginning
abbrev pub unmarked : ℕ → Marks
unmarked base = record { size = 0; entries = []; moments = []; top = (negsuc 0, base) }

-- with a batch more
abbrev pub marked : ℕ → ℕ → Marks → Placed → Marks
marked base interval marks batch = record {
  size = batch.to;
  entries = with_offset base interval marks.entries marks.size batch.last;
  moments =
      if is_due interval marks.entries marks.size then with_time base marks.moments (raised marks.top batch)
      else marks.moments;
  top = raised marks.top batch;
}

-- with these batches more, one after another
abbrev pub marked_by : ℕ → ℕ → Marks → List Placed → Marks
marked_by base interval marks [] = marks
marked_by base interval marks (batch ∷ batches) = marked_by base interval (marked base interval marks batch) batches

-- the offset index of a segment of these batches
abbrev pub index_of : ℕ → ℕ → List Placed → OffsetTable
index_of base interval batches =
    record { base = base; entries = (marked_by base interval (unmarked base) batches).entries }

-- the time index that closing such a segment makes
abbrev pub closing : ℕ → Marks → TimeTable
closing base marks = record { base = base; entries = with_time base marks.moments marks.top }

-- the time index of a closed segment of these batches
abbrev pub time_index_of : ℕ → ℕ → List Placed → TimeTable
time_index_of base interval batches = closing base (marked_by base interval (unmarked base) batches)
