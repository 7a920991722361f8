-- Whether bytes are a batch: twelve tests in their order, each of which reports why it fails.
--
--    1  fewer than 61 bytes                                  Short
--    2  magic is not 2                                       BadMagic
--    3  batch_length is below 49 or above 1,048,564          BadLength
--    4  fewer than 12 + batch_length bytes                   Short
--       more than these                                      BadLength
--    5  crc is not the checksum of the bytes from 21 on      BadCrc, with both
--    6  the records are compressed                           Compressed
--    7  the batch is part of a transaction                   Transactional
--    8  it is a control batch                                Control
--    9  records_count is below 1                             BadRecords at 57
--   10  last_offset_delta is not records_count less 1        BadRecords at 23
--   11  a record is invalid, or not its number           BadRecords at its first byte
--   12  bytes after the last record                         BadRecords at the first of them
--
-- 49 = 61 - 12 is the batch_length of a head alone, and 1,048,564 = 1,048,576 - 12 that of the largest batch.
-- Unsigned, a negative batch_length is above 1,048,564, and a negative records_count above 2,147,483,647.
use Rattle.std.specs.Prelude.{◌≡◌, ◌<◌, ◌≤◌, ℕ, zero, suc, ◌+◌, ◌-◌, ◌/◌, ◌%◌, ◌^◌, ◌==◌, nat_lt, Bool}
use Rattle.std.specs.Prelude.{false, not, if◌then◌else◌, ℤ, pos, negsuc, List, [], ◌∷◌, length, drop, map}
use Rattle.std.specs.Prelude.{slice_index, Option, Some, None, Result, Ok, Err, IsOk}
use Rattle.std.specs.List.{AllByRecursion}
use Rattle.std.specs.Int.{w16, w32, w64, cast_unsigned, int_wrapping_add}
use Rattle.batch_prims.specs.Crc.{crc32c}
use Rattle.log_terms.specs.Batch.{field_at, last_offset_delta_of}
use Rattle.log_terms.specs.Log.{joined}
use Rattle.record_batch.specs.declared.head.Head.{Head}
use Rattle.record_batch.specs.declared.rec.Rec.{Rec}
use Rattle.record_batch.specs.declared.refusal.HeadRefusal.{HeadRefusal}
use Rattle.record_batch.specs.declared.refusal.HeadRefusal.TheVariants as head_cause
use Rattle.record_batch.specs.declared.refusal.BatchRefusal.{BatchRefusal}
use Rattle.record_batch.specs.declared.refusal.BatchRefusal.TheVariants.{Short, BadMagic, BadLength, BadCrc, Compressed}
use Rattle.record_batch.specs.declared.refusal.BatchRefusal.TheVariants.{Transactional, Control, BadRecords}
use Rattle.record_batch.specs.Head.{head_of}
use Rattle.record_batch.specs.Record.{DeltaRec, record_at}

-- tests 1 to 3
unfoldable pub head_refusal : List ℕ → Option HeadRefusal
head_refusal bytes =
    if nat_lt (length bytes) 61 then Some head_cause.Short
    else if not (slice_index bytes 16 == 2) then Some head_cause.BadMagic
    else if nat_lt (field_at w32 8 bytes) 49 then Some head_cause.BadLength
    else if nat_lt 1048564 (field_at w32 8 bytes) then Some head_cause.BadLength
    else None

-- tests 4 and 5
unfoldable pub sum_refusal : List ℕ → Option BatchRefusal
sum_refusal bytes =
    if nat_lt (length bytes) (12 + field_at w32 8 bytes) then Some Short
    else if nat_lt (12 + field_at w32 8 bytes) (length bytes) then Some BadLength
    else if not (field_at w32 17 bytes == crc32c (drop 21 bytes)) then Some
    (BadCrc (field_at w32 17 bytes) (crc32c (drop 21 bytes)))
    else None

-- tests 6 to 8, on the attributes
unfoldable pub flag_refusal : ℕ → Option BatchRefusal
flag_refusal flags =
    if not (flags % 8 == 0) then Some Compressed
    else if flags / 16 % 2 == 1 then Some Transactional
    else if flags / 32 % 2 == 1 then Some Control
    else None

-- tests 9 and 10, on records_count and last_offset_delta
unfoldable pub count_refusal : ℕ → ℕ → Option BatchRefusal
count_refusal count last =
    if count == 0 then Some (BadRecords 57)
    else if nat_lt 2147483647 count then Some (BadRecords 57)
    else if not (last == count - 1) then Some (BadRecords 23)
    else None

-- an offset delta is this number
abbrev pub is_number : ℤ → ℕ → Bool
is_number (pos m) n = m == n
is_number (negsuc m) n = false

-- a record that has its number, or how many bytes were left before it
abbrev pub with_number : ℕ → ℕ → Option (DeltaRec × List ℕ) → Result (DeltaRec × List ℕ) ℕ
with_number n left None = Err left
with_number n left (Some x) = if is_number x.0.offset_delta n then Ok x else Err left

infixl 10 ◌>>=◌
-- the first fault ends it
abbrev pub ◌>>=◌ : {A B E : Type 0} → Result A E → (A → Result B E) → Result B E
(Ok x) >>= f = f x
(Err e) >>= f = Err e

-- so many records, numbered from n on, and nothing after them, or how many bytes were left at the first fault
abbrev pub records_from : ℕ → ℕ → List ℕ → Result (List DeltaRec) ℕ
records_from zero n [] = Ok []
records_from zero n (b ∷ bytes) = Err (suc (length bytes))
records_from (suc count) n bytes = do
  x ← with_number n (length bytes) (record_at bytes)
  others ← records_from count (n + 1) x.1
  Ok (x.0 ∷ others)

-- a timestamp of this delta: the head's max_ts where bit 3 of the attributes is set, and else base_ts and the delta
abbrev pub ts_in : Head → ℤ → ℤ
ts_in head delta =
    if cast_unsigned w16 head.attributes / 8 % 2 == 1 then head.max_ts
    else int_wrapping_add w64 head.base_ts delta

-- a record of a batch with this head
abbrev pub rec_in : Head → DeltaRec → Rec
rec_in head r = record { ts = ts_in head r.ts_delta; key = r.key; value = r.value; headers = r.headers }

-- the same, with what follows the record
abbrev pub rec_shown : Head → DeltaRec × List ℕ → Rec × List ℕ
rec_shown head x = (rec_in head x.0, x.1)

-- a batch: its head, and its records
pub record Batch : Type 0 where
  pub head : Head
  pub recs : List Rec

-- the batch of these records, or the place of the first fault in so many bytes: tests 11 and 12
abbrev pub batch_of : Head → ℕ → Result (List DeltaRec) ℕ → Result Batch BatchRefusal
batch_of head size (Ok rs) = Ok (record { head = head; recs = map (rec_in head) rs })
batch_of head size (Err left) = Err (BadRecords (size - left))

-- a test, and those that come after it
abbrev pub first : {A E : Type 0} → Option E → Result A E → Result A E
first None next = next
first (Some why) next = Err why

-- a cause that is reported of a head, reported of a batch
abbrev pub of_head : HeadRefusal → BatchRefusal
of_head head_cause.Short = Short
of_head head_cause.BadMagic = BadMagic
of_head head_cause.BadLength = BadLength

-- the same for a test
abbrev pub head_test : Option HeadRefusal → Option BatchRefusal
head_test None = None
head_test (Some why) = Some (of_head why)

-- the batch that the bytes are, or the first test that fails
unfoldable pub checked : List ℕ → Result Batch BatchRefusal
checked bytes =
    first (head_test (head_refusal bytes)) (first (sum_refusal bytes) (first (flag_refusal (field_at w16 21 bytes))
    (first (count_refusal (field_at w32 57 bytes) (field_at w32 23 bytes))
    (batch_of (head_of bytes) (length bytes) (records_from (field_at w32 57 bytes) 0 (drop 61 bytes))))))

-- the head alone, where it is a batch
abbrev pub head_in : Result Batch BatchRefusal → Result Head BatchRefusal
head_in (Ok batch) = Ok batch.head
head_in (Err why) = Err why

-- bytes, and what their check found
pub record Tested : Type 0 where
  pub bytes : List ℕ
  pub outcome : Result Head BatchRefusal

-- what was found is what the check finds of these bytes
abbrev pub IsTested : Tested → Type 0
IsTested c = c.outcome ≡ head_in (checked c.bytes)

-- the head of bytes, by the first three tests alone
unfoldable pub headed : List ℕ → Result Head HeadRefusal
headed bytes = first (head_refusal bytes) (Ok (head_of bytes))

-- what holds of bytes that are a batch
pub record IsBatchOf (bytes : List ℕ) (batch : Batch) : Type 0 where
  pub head : batch.head ≡ head_of bytes
  pub long : 61 ≤ length bytes
  pub short : length bytes ≤ 1048576
  pub size : length bytes ≡ 12 + field_at w32 8 bytes
  pub count : length batch.recs ≡ last_offset_delta_of bytes + 1
  pub few : last_offset_delta_of bytes < 2 ^ 31

-- bytes that are batches, one after another, each of which passes its check
pub record AreChecked (bytes : List ℕ) : Type 0 where
  pub batches : List (List ℕ)
  pub are : bytes ≡ joined batches
  pub checked : AllByRecursion (λ (batch : List ℕ). IsOk (checked batch)) batches
