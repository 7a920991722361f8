-- Which bytes of a remote segment's log a fetch needs, as the segment's offset index shows.
--
-- An entry has a batch's last offset, and the position where that batch begins. So the batch that holds an offset
-- begins at the first entry past the offset, or before it, and ends where the second one begins, or before. A run of
-- several batches goes no further than the limit after its first position. None of its batches begins at an entry that
-- lies after the piece. After the run the next batch's head is needed too, since it reports that this batch would pass
-- the limit.
--
-- Source: KIP-405, where a remote segment is read from the position on that its offset index gives.
use Rattle.std.specs.Prelude.{ℕ, ◌+◌, ◌-◌, ◌^◌, nat_lt, min, max, List, map, filter, Option, Some, None, slice_get}
use Rattle.sparse_index.specs.Offsets.{OffsetTable, find}
use Rattle.tier_fetch.specs.declared.turn.Span.{Span}

-- a number of 64 bits, the greatest one in the place of a greater
abbrev pub capped : ℕ → ℕ
capped n = min n (2 ^ 64 - 1)

-- the entries past an offset, by their relative offsets
abbrev pub past : OffsetTable → ℕ → List ℕ
past index offset = filter (λ last. nat_lt offset (index.base + last)) (map (λ entry. entry.0) index.entries)

-- where the batch of an entry begins, as the index finds it: no position is known after the last entry
abbrev pub begin_at : OffsetTable → Option ℕ → ℕ
begin_at index None = 2 ^ 64 - 1
begin_at index (Some last) = (find index (capped (index.base + last))).1

-- where the batch begins, at the latest, that holds an offset or comes after it
abbrev pub first_begin : OffsetTable → ℕ → ℕ
first_begin index offset = begin_at index (slice_get (past index offset) 0)

-- up to where the limit lets a run go whose first batch holds the offset
abbrev pub limit_end : OffsetTable → ℕ → ℕ → ℕ
limit_end index offset limit =
    max (capped (first_begin index offset + limit)) (begin_at index (slice_get (past index offset) 1))

-- up to where bytes are needed in a piece that ends there, the next batch's head among them
abbrev pub needed_end : OffsetTable → ℕ → ℕ → ℕ → ℕ
needed_end index offset limit end = capped (min (limit_end index offset limit) (first_begin index (end - 1)) + 61)

-- the bytes that are needed: from the index's position of the offset on
abbrev pub span_of : OffsetTable → ℕ → ℕ → ℕ → Span
span_of index offset limit end = record {
  from = (find index offset).1;
  most = needed_end index offset limit end - (find index offset).1;
}
