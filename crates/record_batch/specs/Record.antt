-- A record, as it is in a batch: each rule of the grammar as what it reads at the front of bytes, and as what it
-- writes.
--
--   record   = length attributes ts_delta offset_delta key value headers
--   length   = varint             the bytes after it that are the record's: all of them are used up
--   attributes = byte             says nothing; written as 0
--   ts_delta = varlong            the timestamp less the head's base_ts, modulo 2 ^ 64
--   offset_delta = varint         the offset less the head's base_offset: the record's number, from 0 on
--   key      = optional
--   value    = optional
--   headers  = count header ..    count: a varint, how many headers follow
--   header   = blob optional      its key, its value
--   blob     = length byte ..     a varint, and so many bytes
--   optional = blob | length      where the length is negative: none. It is written as -1
--
-- A negative length of a record or of a header's key, a negative count, and bytes that end too early are invalid.
--
-- Source: Kafka's record format, magic 2.
use Rattle.std.specs.Prelude.{ℕ, zero, suc, nat_lt, if◌then◌else◌, ℤ, pos, negsuc, List, [], ◌∷◌, ◌++◌}
use Rattle.std.specs.Prelude.{length, take, drop, Option, Some, None, Result, Ok, Err}
use Rattle.batch_prims.specs.Varint.{varint_at, varlong_at, varint_bytes, varlong_bytes}
use Rattle.record_batch.specs.declared.rec.Header.{Header}

infixl 10 ◌>>=◌
-- what is invalid ends it
abbrev pub ◌>>=◌ : {A B : Type 0} → Option A → (A → Option B) → Option B
(Some x) >>= f = f x
None >>= f = None

-- what was read, if anything
abbrev pub ok_of : {A E : Type 0} → Result A E → Option A
ok_of (Ok x) = Some x
ok_of (Err e) = None

-- so many bytes, and those after them
abbrev pub cut_at : ℤ → List ℕ → Option (List ℕ × List ℕ)
cut_at (negsuc n) bytes = None
cut_at (pos n) bytes = if nat_lt (length bytes) n then None else Some (take n bytes, drop n bytes)

-- blob = length byte ..
unfoldable pub blob_at : List ℕ → Option (List ℕ × List ℕ)
blob_at bytes = do
  n ← ok_of (varint_at bytes)
  cut_at n.0 n.1

-- the bytes of a blob
unfoldable pub blob_bytes : List ℕ → List ℕ
blob_bytes blob = varint_bytes (pos (length blob)) ++ blob

-- so many bytes, or none at all, and those after them
abbrev pub cut_if : ℤ → List ℕ → Option (Option (List ℕ) × List ℕ)
cut_if (negsuc n) bytes = Some (None, bytes)
cut_if (pos n) bytes = if nat_lt (length bytes) n then None else Some (Some (take n bytes), drop n bytes)

-- optional = blob | length
unfoldable pub optional_at : List ℕ → Option (Option (List ℕ) × List ℕ)
optional_at bytes = do
  n ← ok_of (varint_at bytes)
  cut_if n.0 n.1

-- the bytes of a blob that may be none
unfoldable pub optional_bytes : Option (List ℕ) → List ℕ
optional_bytes None = varint_bytes (negsuc 0)
optional_bytes (Some blob) = blob_bytes blob

-- header = blob optional
unfoldable pub header_at : List ℕ → Option (Header × List ℕ)
header_at bytes = do
  key ← blob_at bytes
  value ← optional_at key.1
  Some (record { key = key.0; value = value.0 }, value.1)

-- the bytes of a header
unfoldable pub header_bytes : Header → List ℕ
header_bytes header = blob_bytes header.key ++ optional_bytes header.value

-- a header of these parts, and what follows it
abbrev pub header_shown : List ℕ → Option (List ℕ) → List ℕ → Header × List ℕ
header_shown key value rest = (record { key = key; value = value }, rest)

-- so many headers, and the bytes after them
abbrev pub headers_at : ℕ → List ℕ → Option (List Header × List ℕ)
headers_at zero bytes = Some ([], bytes)
headers_at (suc n) bytes = do
  header ← header_at bytes
  others ← headers_at n header.1
  Some (header.0 ∷ others.0, others.1)

-- the bytes of headers
abbrev pub headers_bytes : List Header → List ℕ
headers_bytes [] = []
headers_bytes (header ∷ headers) = header_bytes header ++ headers_bytes headers

-- headers, and what follows them
abbrev pub headers_shown : List Header → List ℕ → List Header × List ℕ
headers_shown headers rest = (headers, rest)

-- so many headers, where the count is not negative
abbrev pub counted_at : ℤ → List ℕ → Option (List Header × List ℕ)
counted_at (negsuc n) bytes = None
counted_at (pos n) bytes = headers_at n bytes

-- headers = count header ..
unfoldable pub header_list_at : List ℕ → Option (List Header × List ℕ)
header_list_at bytes = do
  n ← ok_of (varint_at bytes)
  counted_at n.0 n.1

-- the bytes of a count, and of so many headers
unfoldable pub header_list_bytes : List Header → List ℕ
header_list_bytes headers = varint_bytes (pos (length headers)) ++ headers_bytes headers

-- a record that reports its timestamp and offset as distances from its batch's
pub record DeltaRec : Type 0 where
  pub ts_delta : ℤ
  pub offset_delta : ℤ
  pub key : Option (List ℕ)
  pub value : Option (List ℕ)
  pub headers : List Header

-- the bytes after the first one, whatever it is
abbrev pub past_byte : List ℕ → Option (List ℕ)
past_byte [] = None
past_byte (b ∷ bytes) = Some bytes

-- what was read, where it used up all bytes
abbrev pub whole : {A : Type 0} → A × List ℕ → Option A
whole (x, []) = Some x
whole (x, b ∷ bytes) = None

-- what precedes the headers
pub record DeltaFront : Type 0 where
  pub ts_delta : ℤ
  pub offset_delta : ℤ
  pub key : Option (List ℕ)
  pub value : Option (List ℕ)

-- the front of what a length counts
unfoldable pub front_at : List ℕ → Option (DeltaFront × List ℕ)
front_at bytes = do
  rest ← past_byte bytes
  ts ← ok_of (varlong_at rest)
  offset ← ok_of (varint_at ts.1)
  key ← optional_at offset.1
  value ← optional_at key.1
  Some (record { ts_delta = ts.0; offset_delta = offset.0; key = key.0; value = value.0 }, value.1)

-- such a front, and the headers after it
abbrev pub with_headers : DeltaFront → List Header → DeltaRec
with_headers front headers = record {
  ts_delta = front.ts_delta;
  offset_delta = front.offset_delta;
  key = front.key;
  value = front.value;
  headers = headers;
}

-- what a record's length counts
unfoldable pub body_at : List ℕ → Option DeltaRec
body_at bytes = do
  front ← front_at bytes
  headers ← header_list_at front.1
  whole (with_headers front.0 headers.0, headers.1)

-- the bytes of what a record's length counts
unfoldable pub body_bytes : DeltaRec → List ℕ
body_bytes r =
    0 ∷ (varlong_bytes r.ts_delta ++ (varint_bytes r.offset_delta
    ++ (optional_bytes r.key ++ (optional_bytes r.value ++ header_list_bytes r.headers))))

-- record = length body
unfoldable pub record_at : List ℕ → Option (DeltaRec × List ℕ)
record_at bytes = do
  body ← blob_at bytes
  r ← body_at body.0
  Some (r, body.1)

-- the bytes of a record
unfoldable pub record_bytes : DeltaRec → List ℕ
record_bytes r = blob_bytes (body_bytes r)

-- records, one after another
abbrev pub records_bytes : List DeltaRec → List ℕ
records_bytes [] = []
records_bytes (r ∷ rs) = record_bytes r ++ records_bytes rs
