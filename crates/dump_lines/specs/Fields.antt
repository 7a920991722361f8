-- The fields of a batch's line, in the words of kafka-dump-log.
--
--   baseOffset, count, baseSequence, producerId, producerEpoch,
--   partitionLeaderEpoch, magic, crc                              the head's own
--   lastOffset             base_offset and last_offset_delta together, modulo 2^64
--   isTransactional        bit 4 of the attributes
--   isControl              bit 5
--   position               where the batch begins in the file
--   CreateTime             max_ts where bit 3 is clear; LogAppendTime where it is set
--   size                   the bytes of the batch
--   compresscodec          bits 0 to 2
--   isvalid                the checksum is right
use Rattle.std.specs.Prelude.{◌==◌, ℕ, ℤ, pos, negsuc, length, min, ◌/◌, ◌%◌, Bool, true, false, if◌then◌else◌}
use Rattle.std.specs.Prelude.{List, [], ◌∷◌, ◌++◌, Option, Some, None}
use Rattle.std.specs.Int.{w16, w64, cast_unsigned, int_wrapping_add}
use Rattle.std.specs.Option.{option_map}
use Rattle.record_batch.specs.declared.head.Head.{Head}
use Rattle.record_batch.specs.declared.rec.Rec.{Rec}
use Rattle.record_batch.specs.declared.refusal.BatchRefusal.{BatchRefusal}
use Rattle.record_batch.specs.declared.refusal.BatchRefusal.TheVariants.{BadCrc}
use Rattle.segment_file.specs.Walk.{size_in}
use Rattle.dump_lines.specs.declared.field.Name.{Name}
use Rattle.dump_lines.specs.declared.field.Name.TheVariants as name
use Rattle.dump_lines.specs.declared.field.Value.{Value}
use Rattle.dump_lines.specs.declared.field.Value.TheVariants as value
use Rattle.dump_lines.specs.declared.field.Field.{Field}
use Rattle.dump_lines.specs.declared.seeing.Shown.{Shown}
use Rattle.dump_lines.specs.declared.seeing.Broken.{Broken}

-- a field
abbrev pub field : Name → Value → Field
field n v = record { name = n; value = v }

-- the bit of this weight is set
abbrev pub has_bit : ℕ → ℕ → Bool
has_bit attributes weight = attributes / weight % 2 == 1

-- the name of the greatest timestamp, by who set it
abbrev pub time_name : ℕ → Name
time_name attributes = if has_bit attributes 8 then name.LogAppendTime else name.CreateTime

-- the attributes of a head
abbrev pub attributes_of : Head → ℕ
attributes_of head = cast_unsigned w16 head.attributes

-- the last offset
unfoldable pub last_of : Head → ℤ
last_of head = int_wrapping_add w64 head.base_offset head.last_offset_delta

-- the last offset, as a field
unfoldable pub last_field : Head → Field
last_field head = field name.LastOffset (value.Number (last_of head))

-- the greatest timestamp
abbrev pub time_field : Head → Field
time_field head = field (time_name (attributes_of head)) (value.Time head.max_ts)

-- the compression
abbrev pub codec_field : Head → Field
codec_field head = field name.CompressCodec (value.Codec (attributes_of head % 8))

-- a bit of the attributes
abbrev pub bit_field : Name → Head → ℕ → Field
bit_field n head weight = field n (value.Flag (has_bit (attributes_of head) weight))

-- the size of the batch
abbrev pub size_field : Head → Field
size_field head = field name.Size (value.Bytes (size_in head))

-- the offsets, the count, the producer and the leader epoch of a batch
abbrev pub front_fields : Head → List Field
front_fields head =
    field name.BaseOffset (value.Number head.base_offset)
    ∷ last_field head
    ∷ field name.Count (value.Number head.records_count)
    ∷ field name.BaseSequence (value.Number head.base_sequence)
    ∷ field name.ProducerId (value.Number head.producer_id)
    ∷ field name.ProducerEpoch (value.Number head.producer_epoch)
    ∷ field name.PartitionLeaderEpoch (value.Number head.leader_epoch)
    ∷ []

-- its flags, its place, its time, its size and its form
abbrev pub back_fields : ℕ → Head → List Field
back_fields position head =
    bit_field name.IsTransactional head 16
    ∷ bit_field name.IsControl head 32
    ∷ field name.Position (value.Unsigned position)
    ∷ time_field head
    ∷ size_field head
    ∷ field name.Magic (value.Number head.magic)
    ∷ codec_field head
    ∷ []

-- its checksum, and whether it is right
abbrev pub sum_fields : Head → Bool → List Field
sum_fields head is_valid = field name.Crc (value.Unsigned head.crc) ∷ field name.IsValid (value.Flag is_valid) ∷ []

-- the line of a batch with this head, which begins at a position
abbrev pub batch_fields : ℕ → Head → Bool → List Field
batch_fields position head is_valid = front_fields head ++ back_fields position head ++ sum_fields head is_valid

-- the line of a batch that is shown; its checksum is right
abbrev pub shown_fields : Shown → List Field
shown_fields one = batch_fields one.position one.head true

-- the checksum is right, or wasn't tested
abbrev pub is_valid : BatchRefusal → Bool
is_valid (BadCrc kept computed) = false
is_valid why = true

-- the line of the batch at which a dump ends, where all of its bytes exist
abbrev pub broken_fields : Broken → Option (List Field)
broken_fields broken = option_map (λ head. batch_fields broken.position head (is_valid broken.why)) broken.head

-- the size of a key or a value, at most 2^63 - 1; -1 for none
abbrev pub size_of : Option (List ℕ) → ℤ
size_of None = negsuc 0
size_of (Some bytes) = pos (min (length bytes) 9223372036854775807)

-- the line of the record of this number, from 0, without its bytes
abbrev pub record_fields : Head → ℕ → Rec → List Field
record_fields head index rec =
    field name.Offset (value.Number (int_wrapping_add w64 head.base_offset (pos index)))
    ∷ field (time_name (attributes_of head)) (value.Time rec.ts)
    ∷ field name.KeySize (value.Number (size_of rec.key))
    ∷ field name.ValueSize (value.Number (size_of rec.value))
    ∷ []
