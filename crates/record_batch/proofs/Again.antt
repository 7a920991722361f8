-- What was written is read again, whatever follows it.
use Rattle.std.proofs.Common.{◌≡◌, refl, ℕ, ◌+◌, ◌*◌, ◌^◌, ◌<◌, ◌≤◌, nat_lt, true, false, ℤ, pos, negsuc, FitsSigned, List, [], ◌∷◌, ◌++◌, length, Option, Some, None, Ok, append_assoc, append-nil, length-append, arith, eq-eqb, le-ltb}
use Rattle.std.specs.Int.{w64, int_wrapping_sub}
use Rattle.std.proofs.Math.Facts.{sfits_to_z, Fits-of_lt}
use Rattle.std.proofs.lemmas.List.{take_at, drop_at}
use Rattle.batch_prims.specs.Varint.{to_zigzag, varint_at, varlong_at, varint_bytes, varlong_bytes}
use Rattle.record_batch.specs.declared.rec.Header.{Header}
use Rattle.record_batch.specs.declared.rec.Rec.{Rec}
use Rattle.record_batch.specs.Record.{cut_at, cut_if, blob_at, optional_at, header_at, headers_at, header_list_at, front_at, body_at, record_at, blob_bytes, optional_bytes, header_bytes, headers_bytes, header_list_bytes, body_bytes, record_bytes, records_bytes, DeltaFront, DeltaRec}
use Rattle.record_batch.specs.Build.{delta_of, deltas_from}
use Rattle.record_batch.specs.Check.{is_number, records_from}
use Rattle.record_batch.proofs.Counts.{list_few}

-- what the numbers below this crate keep
pub record NumberLaws : Type 0 where
  pub varint : (value : ℤ) (rest : List ℕ) → to_zigzag value < 2 ^ 32 → varint_at (varint_bytes value ++ rest) ≡ Ok (value, rest)
  pub varlong : (value : ℤ) (rest : List ℕ) → to_zigzag value < 2 ^ 64 → varlong_at (varlong_bytes value ++ rest) ≡ Ok (value, rest)
  pub width : (value : ℤ) → FitsSigned w64 value → to_zigzag value < 2 ^ 64

-- bytes are cut off again
cut-again : (blob rest : List ℕ) → cut_at (pos (length blob)) (blob ++ rest) ≡ Some (blob, rest)
cut-again blob rest =
    let fits : nat_lt (length (blob ++ rest)) (length blob) ≡ false = le-ltb (length (blob ++ rest)) (length blob) (grind (arith, length-append)) in
    rw (fits, take_at blob rest (length blob) refl, drop_at blob rest (length blob) refl) refl

-- and so where they may be none
cut_if-again : (blob rest : List ℕ) → cut_if (pos (length blob)) (blob ++ rest) ≡ Some (Some blob, rest)
cut_if-again blob rest =
    let fits : nat_lt (length (blob ++ rest)) (length blob) ≡ false = le-ltb (length (blob ++ rest)) (length blob) (grind (arith, length-append)) in
    rw (fits, take_at blob rest (length blob) refl, drop_at blob rest (length blob) refl) refl

-- the size of a blob is that of its length and its bytes
blob-size : (blob : List ℕ) → length (blob_bytes blob) ≡ length (varint_bytes (pos (length blob))) + length blob
unfolding blob_bytes
blob-size blob = length-append (varint_bytes (pos (length blob))) blob

-- a blob is read again
blob-again : NumberLaws → (blob rest : List ℕ) → length (blob_bytes blob) ≤ 1048576 → blob_at (blob_bytes blob ++ rest) ≡ Some (blob, rest)
unfolding blob_at blob_bytes
blob-again laws blob rest h =
    let small : 2 * length blob < 2 ^ 32 = omega (arith, h, blob-size blob) in
    rw (append_assoc (varint_bytes (pos (length blob))) blob rest, laws.varint (pos (length blob)) (blob ++ rest) small) (cut-again blob rest)

-- a blob that may be none is read again
optional-again : NumberLaws → (value : Option (List ℕ)) (rest : List ℕ) → length (optional_bytes value) ≤ 1048576
    → optional_at (optional_bytes value ++ rest) ≡ Some (value, rest)
unfolding optional_at optional_bytes blob_bytes
optional-again laws None rest h = rw (laws.varint (negsuc 0) rest (omega arith)) refl
optional-again laws (Some blob) rest h =
    let small : 2 * length blob < 2 ^ 32 = omega (arith, h, blob-size blob) in
    rw (append_assoc (varint_bytes (pos (length blob))) blob rest, laws.varint (pos (length blob)) (blob ++ rest) small) (cut_if-again blob rest)

-- a header is read again
header-again : NumberLaws → (header : Header) (rest : List ℕ) → length (header_bytes header) ≤ 1048576
    → header_at (header_bytes header ++ rest) ≡ Some (header, rest)
unfolding header_at header_bytes
header-again laws header rest h =
    let size : length (blob_bytes header.key) + length (optional_bytes header.value) ≤ 1048576
    = omega (arith, h, length-append (blob_bytes header.key) (optional_bytes header.value)) in
    rw (
      append_assoc (blob_bytes header.key) (optional_bytes header.value) rest,
      blob-again laws header.key (optional_bytes header.value ++ rest) (omega arith),
      optional-again laws header.value rest (omega arith),
    ) refl

-- headers are read again
headers-again : NumberLaws → (headers : List Header) (rest : List ℕ) → length (headers_bytes headers) ≤ 1048576
    → headers_at (length headers) (headers_bytes headers ++ rest) ≡ Some (headers, rest)
headers-again laws [] rest h = refl
headers-again laws (header ∷ headers) rest h =
    let size : length (header_bytes header) + length (headers_bytes headers) ≤ 1048576
    = omega (arith, h, length-append (header_bytes header) (headers_bytes headers)) in
    rw (
      append_assoc (header_bytes header) (headers_bytes headers) rest,
      header-again laws header (headers_bytes headers ++ rest) (omega arith),
      headers-again laws headers rest (omega arith),
    ) refl

-- a count and headers are read again
header_list-again : NumberLaws → (headers : List Header) (rest : List ℕ) → length (header_list_bytes headers) ≤ 1048576
    → header_list_at (header_list_bytes headers ++ rest) ≡ Some (headers, rest)
unfolding header_list_at header_list_bytes
header_list-again laws headers rest h =
    let few : 2 * length headers < 2 ^ 32 = omega (arith, h, list_few headers) in
    let size : length (headers_bytes headers) ≤ 1048576
    = omega (arith, h, length-append (varint_bytes (pos (length headers))) (headers_bytes headers)) in
    rw (
      append_assoc (varint_bytes (pos (length headers))) (headers_bytes headers) rest,
      laws.varint (pos (length headers)) (headers_bytes headers ++ rest) few,
    ) (headers-again laws headers rest size)

-- a number fits where it is written
pub record NumbersFit (r : DeltaRec) : Type 0 where
  pub ts_delta : to_zigzag r.ts_delta < 2 ^ 64
  pub offset_delta : to_zigzag r.offset_delta < 2 ^ 32

-- the front's two blobs fit
pub record BlobsFit (r : DeltaRec) : Type 0 where
  pub key : length (optional_bytes r.key) ≤ 1048576
  pub value : length (optional_bytes r.value) ≤ 1048576
  pub headers : length (header_list_bytes r.headers) ≤ 1048576

-- what precedes the headers of a record
abbrev pub front_in : DeltaRec → DeltaFront
front_in r = record { ts_delta = r.ts_delta; offset_delta = r.offset_delta; key = r.key; value = r.value }

-- the front of a record is read again
front-again : NumberLaws → (r : DeltaRec) (rest : List ℕ) → NumbersFit r → BlobsFit r
    → front_at (0 ∷ (varlong_bytes r.ts_delta ++ (varint_bytes r.offset_delta ++ (optional_bytes r.key ++ (optional_bytes r.value ++ rest)))))
    ≡ Some (front_in r, rest)
unfolding front_at
front-again laws r rest n b =
    rw (
      laws.varlong r.ts_delta (varint_bytes r.offset_delta ++ (optional_bytes r.key ++ (optional_bytes r.value ++ rest))) n.ts_delta,
      laws.varint r.offset_delta (optional_bytes r.key ++ (optional_bytes r.value ++ rest)) n.offset_delta,
      optional-again laws r.key (optional_bytes r.value ++ rest) b.key,
      optional-again laws r.value rest b.value,
    ) refl

-- the parts of a body are no larger than it
blobs-fit : (r : DeltaRec) → length (body_bytes r) ≤ 1048576 → BlobsFit r
unfolding body_bytes
blobs-fit r h =
    let size : length (optional_bytes r.key) + (length (optional_bytes r.value) + length (header_list_bytes r.headers)) ≤ 1048576
    = omega (
      arith,
      h,
      length-append (varlong_bytes r.ts_delta) (varint_bytes r.offset_delta ++ (optional_bytes r.key ++ (optional_bytes r.value ++ header_list_bytes r.headers))),
      length-append (varint_bytes r.offset_delta) (optional_bytes r.key ++ (optional_bytes r.value ++ header_list_bytes r.headers)),
      length-append (optional_bytes r.key) (optional_bytes r.value ++ header_list_bytes r.headers),
      length-append (optional_bytes r.value) (header_list_bytes r.headers),
    ) in record {
      key = omega arith;
      value = omega arith;
      headers = omega arith;
    }

-- what a length counts is read again
body-again : NumberLaws → (r : DeltaRec) → NumbersFit r → length (body_bytes r) ≤ 1048576 → body_at (body_bytes r) ≡ Some r
unfolding body_at body_bytes
body-again laws r n h =
    let b : BlobsFit r = blobs-fit r h in
    let last : header_list_bytes r.headers ++ [] ≡ header_list_bytes r.headers = append-nil (header_list_bytes r.headers) in
    rw (
      front-again laws r (header_list_bytes r.headers) n b,
      ← last,
      header_list-again laws r.headers [] b.headers,
    ) refl

-- a record is read again
record-again : NumberLaws → (r : DeltaRec) (rest : List ℕ) → NumbersFit r → length (record_bytes r) ≤ 1048576
    → record_at (record_bytes r ++ rest) ≡ Some (r, rest)
unfolding record_at record_bytes
record-again laws r rest n h =
    let size : length (body_bytes r) ≤ 1048576 = omega (arith, h, blob-size (body_bytes r)) in
    rw (blob-again laws (body_bytes r) rest h, body-again laws r n size) refl

-- a distance of two timestamps has 64 bits
delta-fits : (x y : ℤ) → FitsSigned w64 (int_wrapping_sub w64 x y)
delta-fits x y = sfits_to_z {w = w64} (Fits-of_lt {w = w64} (omega arith))

-- records are read again, each by its number
pub records_again : NumberLaws → (base_ts : ℤ) (n : ℕ) (recs : List Rec) → n + length recs ≤ 1048576
    → length (records_bytes (deltas_from base_ts n recs)) ≤ 1048576
    → records_from (length recs) n (records_bytes (deltas_from base_ts n recs)) ≡ Ok (deltas_from base_ts n recs)
records_again laws base_ts n [] few h = refl
records_again laws base_ts n (r ∷ recs) few h =
    let d = delta_of base_ts n r in
    let rest = records_bytes (deltas_from base_ts (n + 1) recs) in
    let size : length (record_bytes (delta_of base_ts n r)) + length (records_bytes (deltas_from base_ts (n + 1) recs)) ≤ 1048576
    = omega (arith, h, length-append (record_bytes (delta_of base_ts n r)) (records_bytes (deltas_from base_ts (n + 1) recs))) in
    let fits : NumbersFit (delta_of base_ts n r) = record {
      ts_delta = laws.width (int_wrapping_sub w64 r.ts base_ts) (delta-fits r.ts base_ts);
      offset_delta = omega arith;
    } in
    let own : is_number (pos n) n ≡ true = eq-eqb n n refl in
    rw (
      record-again laws (delta_of base_ts n r) (records_bytes (deltas_from base_ts (n + 1) recs)) fits (omega arith),
      own,
      records_again laws base_ts (n + 1) recs (omega arith) (omega arith),
    ) refl
