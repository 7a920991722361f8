-- The batch of records that nobody has placed yet: it is built at base offset 0, in leader epoch 0.
--
-- No compression, no transaction, no producer: attributes 0, and -1 in each of the producer's fields. The head's places
-- are in the module Head, a record's grammar in Record.
use Rattle.std.specs.Prelude.{◌≡◌, ℕ, ◌+◌, ◌-◌, ◌<◌, ◌≤◌, ℤ, pos, List, [], ◌∷◌, ◌++◌}
use Rattle.std.specs.Prelude.{length, replicate, All, FitsSigned, ◌^◌}
use Rattle.std.specs.Int.{w32, w64, to_be_bytes, cast_unsigned, int_wrapping_sub, int_max}
use Rattle.batch_prims.specs.Crc.{crc32c}
use Rattle.log_terms.specs.Batch.{base_of, epoch_of, last_offset_delta_of}
use Rattle.record_batch.specs.declared.rec.Rec.{Rec}
use Rattle.record_batch.specs.Record.{DeltaRec, records_bytes}

-- the record of this number, in a batch whose base_ts is base_ts
abbrev pub delta_of : ℤ → ℕ → Rec → DeltaRec
delta_of base_ts number r = record {
  ts_delta = int_wrapping_sub w64 r.ts base_ts;
  offset_delta = pos number;
  key = r.key;
  value = r.value;
  headers = r.headers;
}

-- records that are numbered from n on
abbrev pub deltas_from : ℤ → ℕ → List Rec → List DeltaRec
deltas_from base_ts n [] = []
deltas_from base_ts n (r ∷ recs) = delta_of base_ts n r ∷ deltas_from base_ts (n + 1) recs

-- the first record's timestamp
abbrev pub first_ts : List Rec → ℤ
first_ts [] = pos 0
first_ts (r ∷ recs) = r.ts

-- the greatest of a timestamp and the records' own
abbrev pub greatest_from : ℤ → List Rec → ℤ
greatest_from ts [] = ts
greatest_from ts (r ∷ recs) = greatest_from (int_max ts r.ts) recs

-- the greatest timestamp
abbrev pub greatest_ts : List Rec → ℤ
greatest_ts recs = greatest_from (first_ts recs) recs

-- the spelling of all records
unfoldable pub all_bytes : List Rec → List ℕ
all_bytes recs = records_bytes (deltas_from (first_ts recs) 0 recs)

-- four bytes of a number
unfoldable pub u32_bytes : ℕ → List ℕ
u32_bytes n = to_be_bytes w32 n

-- the eight bytes of a timestamp
unfoldable pub ts_bytes : ℤ → List ℕ
ts_bytes ts = to_be_bytes w64 (cast_unsigned w64 ts)

-- producer_id, producer_epoch and base_sequence of no producer: 14 bytes, each field -1
unfoldable pub no_producer : List ℕ
no_producer = replicate 14 255

-- the head from the attributes on: these are 0, then last_offset_delta, base_ts, max_ts, the producer, records_count
unfoldable pub late_head : List Rec → List ℕ
late_head recs =
    0 ∷ 0 ∷ (u32_bytes (length recs - 1)
    ++ (ts_bytes (first_ts recs) ++ (ts_bytes (greatest_ts recs) ++ (no_producer ++ u32_bytes (length recs)))))

-- what the checksum covers
abbrev pub covered : List Rec → List ℕ
covered recs = late_head recs ++ all_bytes recs

-- the head before the checksum, of a batch of so many bytes: base_offset 0, batch_length, leader_epoch 0, magic 2
unfoldable pub early_head : ℕ → List ℕ
early_head size = replicate 8 0 ++ (u32_bytes (size - 12) ++ (replicate 4 0 ++ 2 ∷ []))

-- a batch of what the checksum covers: the early head, the checksum, and that
unfoldable pub sealed : List ℕ → List ℕ
sealed rest = early_head (21 + length rest) ++ (u32_bytes (crc32c rest) ++ rest)

-- the batch of these records
unfoldable pub built : List Rec → List ℕ
built recs = sealed (covered recs)

-- there are records, and their batch is no larger than a batch may be
pub record IsBuildable (recs : List Rec) : Type 0 where
  pub some : 0 < length recs
  pub fits : length (built recs) ≤ 1048576

-- there are records, and their batch is larger than a batch may be
pub record IsTooLarge (recs : List Rec) : Type 0 where
  pub some : 0 < length recs
  pub large : 1048576 < length (built recs)

-- what the head of a batch of these records reports, at this base offset and in this leader epoch
pub record HeadTells (batch : List ℕ) (base epoch : ℕ) (recs : List Rec) : Type 0 where
  pub base_offset : base_of batch ≡ base
  pub leader_epoch : epoch_of batch ≡ epoch
  pub last_offset_delta : last_offset_delta_of batch ≡ length recs - 1
  pub size : 61 ≤ length batch

-- records as a program holds them: timestamps of 64 bits, and bytes, whose checksum has 32 bits
pub record HaveWidths (recs : List Rec) : Type 0 where
  pub times : All (λ (r : Rec). FitsSigned w64 r.ts) recs
  pub sum : crc32c (covered recs) < 2 ^ 32
