-- A record batch: a head of 61 bytes, big endian, and after it the records.
--
--   at  size  field
--    0     8  base_offset (Kafka's baseOffset): the first record's offset
--    8     4  batch_length: how many bytes there are from 12 on
--   12     4  leader_epoch (Kafka's partitionLeaderEpoch)
--   16     1  magic: 2
--   17     4  crc: CRC-32C of the bytes from 21 on
--   21     2  attributes: bits 0 to 2 the compression, 0 for none; bit 3 set where each record has the time max_ts;
--             bit 4 set in a transaction; bit 5 set in a control batch; the others are kept, and say nothing
--   23     4  last_offset_delta: the last record's offset less the first's
--   27     8  base_ts (Kafka's baseTimestamp): the records' timestamps are reported as their distance from it
--   35     8  max_ts (Kafka's maxTimestamp): the greatest timestamp
--   43     8  producer_id
--   51     2  producer_epoch
--   53     4  base_sequence
--   57     4  records_count
--   61        records, one after another
--
-- All but crc are signed. The checksum covers neither the base offset nor the leader epoch, so that a broker sets both.
--
-- Source: Kafka's record batch, magic 2.
use Rattle.std.specs.Prelude.{ℕ, ℤ, List, slice_index}
use Rattle.std.specs.Int.{Width, w8, w16, w32, w64, cast_signed}
use Rattle.log_terms.specs.Batch.{field_at}
use Rattle.record_batch.specs.declared.head.Head.{Head}

-- the signed number that is at a place of the bytes
abbrev pub signed_at : Width → ℕ → List ℕ → ℤ
signed_at w at bytes = cast_signed w (field_at w at bytes)

-- the fields before the records
unfoldable pub head_of : List ℕ → Head
head_of bytes = record {
  base_offset = signed_at w64 0 bytes;
  batch_length = signed_at w32 8 bytes;
  leader_epoch = signed_at w32 12 bytes;
  magic = cast_signed w8 (slice_index bytes 16);
  crc = field_at w32 17 bytes;
  attributes = signed_at w16 21 bytes;
  last_offset_delta = signed_at w32 23 bytes;
  base_ts = signed_at w64 27 bytes;
  max_ts = signed_at w64 35 bytes;
  producer_id = signed_at w64 43 bytes;
  producer_epoch = signed_at w16 51 bytes;
  base_sequence = signed_at w32 53 bytes;
  records_count = signed_at w32 57 bytes;
}
