-- What has a spelling takes at least a byte, so a batch's bytes bound how many things it holds.
use Rattle.std.proofs.Common.{◌≡◌, ℕ, ◌+◌, ◌<◌, ◌≤◌, nat_lt, Bool, true, false, cond, ℤ, pos, List, [], ◌∷◌, ◌++◌, length, length-append, arith}
use Rattle.batch_prims.specs.Varint.{to_zigzag, shortest, varint_bytes, varlong_bytes}
use Rattle.record_batch.specs.declared.rec.Header.{Header}
use Rattle.record_batch.specs.declared.rec.Rec.{Rec}
use Rattle.record_batch.specs.Record.{blob_bytes, optional_bytes, header_bytes, headers_bytes, header_list_bytes, body_bytes, record_bytes, records_bytes, DeltaRec}
use Rattle.record_batch.specs.Build.{delta_of, deltas_from, first_ts, all_bytes, built, sealed, early_head, late_head, u32_bytes, ts_bytes, no_producer, IsBuildable}

-- one group or more
one-or-more : (t : Bool) (a b : ℕ) (xs : List ℕ) → 0 < length (cond t (a ∷ []) (b ∷ xs))
one-or-more true a b xs = omega arith
one-or-more false a b xs = omega arith

-- a varint has a byte
varint-some : (z : ℤ) → 0 < length (varint_bytes z)
unfolding varint_bytes shortest
varint-some z = one-or-more (nat_lt (to_zigzag z) 128) _ _ _

-- a blob has a byte
blob-some : (blob : List ℕ) → 0 < length (blob_bytes blob)
unfolding blob_bytes
blob-some blob = omega (arith, varint-some (pos (length blob)), length-append (varint_bytes (pos (length blob))) blob)

-- a header has a byte
header-some : (header : Header) → 0 < length (header_bytes header)
unfolding header_bytes
header-some header = omega (arith, blob-some header.key, length-append (blob_bytes header.key) (optional_bytes header.value))

-- a record has a byte
record-some : (r : DeltaRec) → 0 < length (record_bytes r)
unfolding record_bytes
record-some r = blob-some (body_bytes r)

-- no more headers than bytes
pub headers_few : (headers : List Header) → length headers ≤ length (headers_bytes headers)
headers_few [] = omega arith
headers_few (header ∷ headers) =
    omega (arith, header-some header, headers_few headers, length-append (header_bytes header) (headers_bytes headers))

-- no more headers than their list has bytes
pub list_few : (headers : List Header) → length headers ≤ length (header_list_bytes headers)
unfolding header_list_bytes
list_few headers =
    omega (arith, headers_few headers, length-append (varint_bytes (pos (length headers))) (headers_bytes headers))

-- no more headers than the body has bytes
pub body_few : (r : DeltaRec) → length r.headers ≤ length (body_bytes r)
unfolding body_bytes
body_few r =
    omega (
      arith,
      list_few r.headers,
      length-append (varlong_bytes r.ts_delta) (varint_bytes r.offset_delta ++ (optional_bytes r.key ++ (optional_bytes r.value ++ header_list_bytes r.headers))),
      length-append (varint_bytes r.offset_delta) (optional_bytes r.key ++ (optional_bytes r.value ++ header_list_bytes r.headers)),
      length-append (optional_bytes r.key) (optional_bytes r.value ++ header_list_bytes r.headers),
      length-append (optional_bytes r.value) (header_list_bytes r.headers),
    )

-- no more records than bytes
pub records_few : (base_ts : ℤ) (n : ℕ) (recs : List Rec) → length recs ≤ length (records_bytes (deltas_from base_ts n recs))
records_few base_ts n [] = omega arith
records_few base_ts n (r ∷ recs) =
    omega (
      arith,
      record-some (delta_of base_ts n r),
      records_few base_ts (n + 1) recs,
      length-append (record_bytes (delta_of base_ts n r)) (records_bytes (deltas_from base_ts (n + 1) recs)),
    )

-- a batch has a head and its records
pub length_built : (recs : List Rec) → length (built recs) ≡ 61 + length (all_bytes recs)
unfolding built sealed early_head late_head u32_bytes ts_bytes no_producer
length_built recs = omega arith

-- no more records than a batch has bytes
pub buildable_few : (recs : List Rec) → IsBuildable recs → length recs ≤ 1048576
unfolding all_bytes
buildable_few recs b = omega (arith, b.fits, length_built recs, records_few (first_ts recs) 0 recs)
