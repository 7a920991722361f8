-- The bytes of a manifest: big endian, and nothing follows. There are n segments.
--
--       at  size  field
--        0     4  TLM1
--        4     4  incarnation, at least 1
--        8     8  local start: the base of the first segment
--       16     4  count of segments, 1 to 4,096
--       20   8+4  base, at most 2^62, and flushed length, below 2^31. Bases rise, and only the last length may be 0
--   20+12n     4  count of line entries
--   24+12n   4+8  epoch, below 2^31, and where it starts, at most 2^62. Both rise
use Rattle.std.specs.Prelude.{ℕ, List, ◌++◌, length, map}
use Rattle.std.specs.Int.{w32, w64, to_be_bytes}
use Rattle.std.specs.List.{concat}
use Rattle.log_manifest.specs.declared.manifest.Extent.{Extent}
use Rattle.log_manifest.specs.declared.manifest.Manifest.{Manifest}

-- TLM1, as a number
abbrev pub magic : ℕ
magic = 0x544C4D31

-- a base, then a length
unfoldable pub segment_bytes : Extent → List ℕ
segment_bytes segment = to_be_bytes w64 segment.base ++ to_be_bytes w32 segment.len

-- an epoch, then its start
unfoldable pub entry_bytes : ℕ × ℕ → List ℕ
entry_bytes entry = to_be_bytes w32 entry.0 ++ to_be_bytes w64 entry.1

-- what precedes the segments
unfoldable pub front_bytes : ℕ → ℕ → ℕ → List ℕ
front_bytes incarnation local_start count =
    to_be_bytes w32 magic ++ (to_be_bytes w32 incarnation ++ (to_be_bytes w64 local_start ++ to_be_bytes w32 count))

-- the segments, one after another
abbrev pub segments_bytes : List Extent → List ℕ
segments_bytes segments = concat (map segment_bytes segments)

-- the line's entries, one after another
abbrev pub entries_bytes : List (ℕ × ℕ) → List ℕ
entries_bytes entries = concat (map entry_bytes entries)

-- a manifest
unfoldable pub manifest_bytes : Manifest → List ℕ
manifest_bytes m =
    front_bytes m.incarnation m.local_start (length m.segments)
    ++ (segments_bytes m.segments ++ (to_be_bytes w32 (length m.line) ++ entries_bytes m.line))
