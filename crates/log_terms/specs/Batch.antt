-- The fields of a record batch that a log reads, big endian. A batch is its bytes.
--
--   at  size  field
--    0     8  base_offset: the offset of the first record
--    8     4  batch_length: the bytes from 12 on
--   12     4  leader_epoch (Kafka's partitionLeaderEpoch)
--   23     4  last_offset_delta: the last record's offset less the first's
--   35     8  max_ts (Kafka's maxTimestamp): the greatest timestamp, a signed number
--
-- Source: Kafka's record batch, magic 2. The whole table is record_batch's.
use Rattle.std.specs.Prelude.{ℕ, ◌+◌, ℤ, List, take, drop}
use Rattle.std.specs.Int.{Width, w32, w64, byte_len, from_be_bytes, cast_signed}

-- the number that is at a place of the bytes
unfoldable pub field_at : Width → ℕ → List ℕ → ℕ
field_at w at bytes = from_be_bytes w (take (byte_len w) (drop at bytes))

-- the offset of the first record
unfoldable pub base_of : List ℕ → ℕ
base_of batch = field_at w64 0 batch

-- the leader epoch in which the batch was appended
unfoldable pub epoch_of : List ℕ → ℕ
epoch_of batch = field_at w32 12 batch

-- the last record's offset less the first's
unfoldable pub last_offset_delta_of : List ℕ → ℕ
last_offset_delta_of batch = field_at w32 23 batch

-- the offset of the last record
abbrev pub last_of : List ℕ → ℕ
last_of batch = base_of batch + last_offset_delta_of batch

-- the greatest timestamp
unfoldable pub max_ts_of : List ℕ → ℤ
max_ts_of batch = cast_signed w64 (field_at w64 35 batch)
