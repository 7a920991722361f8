-- Which closed segment a leader copies next.
--
-- The copied mark is the end that remote pieces reach, one after another, from the local start or the log start offset
-- on, whichever is greater. The first closed segment that ends past it is copied, where it ends at or below the known
-- high watermark.
--
-- Source: KIP-405, where only a leader copies, in order, and below its last stable offset. The copied mark replaces
-- Kafka's highest remote offset: where something is copied and no gap exists between, it is the offset after that one.
use Rattle.std.specs.Prelude.{ℕ, nat_le, if◌then◌else◌, List, Option, Some, None}
use Rattle.segment_file.specs.Growing.{Grown}
use Rattle.local_log.specs.Stored.{end_of}
use Rattle.local_log.specs.Reading.{first_past}

-- a segment that there may be, where it ends at or below the known high watermark
abbrev pub below : ℕ → Option Grown → Option Grown
below known None = None
below known (Some segment) = if nat_le (end_of segment) known then Some segment else None

-- the closed segment to copy, where the remote tier has all up to the copied mark
abbrev pub candidate : List Grown → ℕ → ℕ → Option Grown
candidate closed copied known = below known (first_past copied closed)
