-- The bytes of an event: big endian, and nothing follows. Version 1 is of a packed segment, and has a field more.
--
-- An event that adds a remote segment:
--
--   at  size  field
--    0     1  version: 0 or 1
--    1     1  kind: 0
--    2    16  id
--   18     2  partition
--   20     8  start: the first offset
--   28     8  end: the last offset, not below start, and below 2^62
--   36     8  max_ts: the greatest timestamp, signed
--   44     2  broker
--   46     8  event_ts, signed
--   54     4  size of the log segment in bytes
--   58     1  state: 0
--   59     4  count of epochs, 1 to 67,108,864
--   63   4+8  epoch, below 2^31, and where it starts, at most at end. Both rise, and the first start is start
--   then  2  length of the custom metadata: 0. In version 1 alone
--
-- An event that updates one:
--
--   at  size  field
--    0     1  version: 0 or 1
--    1     1  kind: 1
--    2    16  id
--   18     2  broker
--   20     8  event_ts, signed
--   28     1  state: 1 to 3
--   29     2  length of the custom metadata: at most 128, and 0 unless the state is 1. In version 1 alone
--   31     n  so many bytes of it
--
-- States: 0 copy started, 1 copy finished, 2 delete started, 3 delete finished.
--
-- Source: of the custom metadata KIP-917, CustomMetadata, whose limit is Kafka's default of 128 bytes.
use Rattle.std.specs.Prelude.{ℕ, ℤ, Bool, true, false, List, [], ◌∷◌, ◌++◌, length, map, Option, Some, None, is_some}
use Rattle.std.specs.Int.{w16, w32, w64, to_be_bytes, cast_unsigned}
use Rattle.std.specs.List.{concat}
use Rattle.tier_base.specs.declared.names.BrokerId.{BrokerId}
use Rattle.tier_base.specs.declared.names.SegmentId.{SegmentId}
use Rattle.tier_base.specs.declared.plain.State.{State}
use Rattle.tier_base.specs.declared.plain.State.TheVariants.{CopyStarted, CopyFinished, DeleteStarted, DeleteFinished}
use Rattle.segment_meta.specs.declared.note.Entry.{Entry}
use Rattle.segment_meta.specs.declared.note.Note.{Note}
use Rattle.segment_meta.specs.declared.note.Note.TheVariants.{Add, Update}

-- a state's number
abbrev pub state_code : State → ℕ
state_code CopyStarted = 0
state_code CopyFinished = 1
state_code DeleteStarted = 2
state_code DeleteFinished = 3

-- the eight bytes of a timestamp
unfoldable pub ts_bytes : ℤ → List ℕ
ts_bytes ts = to_be_bytes w64 (cast_unsigned w64 ts)

-- an epoch, then its start
unfoldable pub pair_bytes : ℕ × ℕ → List ℕ
pair_bytes pair = to_be_bytes w32 pair.0 ++ to_be_bytes w64 pair.1

-- the epochs of a map, one after another
abbrev pub pairs_bytes : List (ℕ × ℕ) → List ℕ
pairs_bytes pairs = concat (map pair_bytes pairs)

-- which segment an entry describes, and its offsets
unfoldable pub span_bytes : Entry → List ℕ
span_bytes entry =
    entry.id.0 ++ (to_be_bytes w16 entry.partition.0 ++ (to_be_bytes w64 entry.start ++ to_be_bytes w64 entry.end))

-- an entry's further fields before its map
unfoldable pub event_bytes : Entry → List ℕ
event_bytes entry =
    ts_bytes entry.max_ts ++ (to_be_bytes w16 entry.broker.0 ++ (ts_bytes entry.event_ts
    ++ (to_be_bytes w32 entry.size ++ state_code entry.state ∷ [])))

-- an entry: its fields, the count of its map, and the map
unfoldable pub entry_bytes : Entry → List ℕ
entry_bytes entry =
    span_bytes entry ++ (event_bytes entry ++ (to_be_bytes w32 (length entry.map) ++ pairs_bytes entry.map))

-- the version of an event, of a packed segment or not
abbrev pub version_of : Bool → ℕ
version_of false = 0
version_of true = 1

-- custom metadata: its length, then its bytes
abbrev pub custom_bytes : Option (List ℕ) → List ℕ
custom_bytes None = []
custom_bytes (Some bytes) = to_be_bytes w16 (length bytes) ++ bytes

-- what follows the map of an entry that is packed or not: no custom metadata
abbrev pub packed_bytes : Bool → List ℕ
packed_bytes false = []
packed_bytes true = to_be_bytes w16 0

-- an update's fields after its version and kind
unfoldable pub update_bytes : SegmentId → BrokerId → ℤ → State → Option (List ℕ) → List ℕ
update_bytes id broker event_ts state custom =
    id.0 ++ (to_be_bytes w16 broker.0 ++ (ts_bytes event_ts ++ (state_code state ∷ custom_bytes custom)))

-- an event
unfoldable pub note_bytes : Note → List ℕ
note_bytes (Add entry) = version_of entry.packed ∷ 0 ∷ (entry_bytes entry ++ packed_bytes entry.packed)
note_bytes (Update id broker event_ts state custom) =
    version_of (is_some custom) ∷ 1 ∷ update_bytes id broker event_ts state custom
