-- The totals of a load's lines are within the limits.
use Rattle.std.proofs.Common.{◌≡◌, refl, ℕ, zero, suc, ◌+◌, ◌*◌, ◌^◌, ◌≤◌, nat_lt, Bool, true, false, List, [], ◌∷◌, ◌++◌, length, arith, length-append}
use Rattle.std.specs.Prelude.{ℤ, pos, negsuc, max, ◌/◌, ◌%◌, if◌then◌else◌, Some, None, Ok}
use Rattle.std.proofs.Math.Nat.{mul-le-mul_left}
use Rattle.std.proofs.lemmas.Bool.{le-ltb}
use Rattle.batch_prims.specs.Varint.{groups_of, shortest, to_zigzag, varint_bytes, varlong_bytes}
use Rattle.record_batch.specs.declared.rec.Rec.{Rec}
use Rattle.record_batch.specs.Record.{blob_bytes, optional_bytes, header_list_bytes, body_bytes, record_bytes, DeltaRec}
use Rattle.record_batch.specs.Build.{delta_of, all_bytes, built}
use Rattle.record_batch.proofs.Counts.{length_built}
use Rattle.script_lang.specs.declared.counting.Counts.{Counts}
use Rattle.script_lang.specs.Limits.{within}

-- a number has ten groups at most
groups_short : (most n : ℕ) → length (groups_of most n) ≤ most
groups_short zero n = omega arith
groups_short (suc most) n = by (nat_lt n 128) (groups_short most (n / 128))
  where
    by : (t : Bool) → length (groups_of most (n / 128)) ≤ most → length (if t then n ∷ [] else (n % 128 + 128) ∷ groups_of most (n / 128)) ≤ suc most
    by true rest = omega arith
    by false rest = omega (arith, rest)

varint_short : (z : ℤ) → length (varint_bytes z) ≤ 10
unfolding varint_bytes shortest
varint_short z = groups_short 10 (to_zigzag z)

varlong_short : (z : ℤ) → length (varlong_bytes z) ≤ 10
unfolding varlong_bytes shortest
varlong_short z = groups_short 10 (to_zigzag z)

blob_short : (blob : List ℕ) → length (blob_bytes blob) ≤ 10 + length blob
unfolding blob_bytes
blob_short blob = omega (arith, varint_short (pos (length blob)), length-append (varint_bytes (pos (length blob))) blob)

none_short : length (optional_bytes None) ≤ 10
unfolding optional_bytes
none_short = varint_short (negsuc 0)

some_short : (blob : List ℕ) → length (optional_bytes (Some blob)) ≤ 10 + length blob
unfolding optional_bytes
some_short blob = blob_short blob

no_headers : length (header_list_bytes []) ≤ 10
unfolding header_list_bytes
no_headers = omega (arith, varint_short (pos 0), length-append (varint_bytes (pos 0)) [])

-- a record of a value alone
body_short : (ts offset : ℤ) (value : List ℕ) → length (body_bytes (record { ts_delta = ts; offset_delta = offset; key = None; value = Some value; headers = [] })) ≤ 51 + length value
unfolding body_bytes
body_short ts offset value =
    omega (
      arith,
      varlong_short ts,
      varint_short offset,
      none_short,
      some_short value,
      no_headers,
      length-append (varlong_bytes ts) (varint_bytes offset ++ (optional_bytes None ++ (optional_bytes (Some value) ++ header_list_bytes []))),
      length-append (varint_bytes offset) (optional_bytes None ++ (optional_bytes (Some value) ++ header_list_bytes [])),
      length-append (optional_bytes None) (optional_bytes (Some value) ++ header_list_bytes []),
      length-append (optional_bytes (Some value)) (header_list_bytes []),
    )

record_short : (r : DeltaRec) → length (record_bytes r) ≤ 10 + length (body_bytes r)
unfolding record_bytes
record_short r = blob_short (body_bytes r)

-- the batch of such a record
pub batch_short : (ts : ℤ) (value : List ℕ) → length (built ((record { ts = ts; key = None; value = Some value; headers = [] }) ∷ [])) ≤ 122 + length value
unfolding all_bytes
batch_short ts value =
    let r : Rec = record { ts = ts; key = None; value = Some value; headers = [] } in
    let d : DeltaRec = delta_of ts 0 r in
    omega (arith, length_built (r ∷ []), length-append (record_bytes d) [], record_short d, body_short d.ts_delta d.offset_delta value)

-- the limits, where so many commands, fetches and copies came
pub counts_within : (segment : ℕ) (s : Counts) (size : ℕ) → segment ≤ 9325 → s.commands ≤ 40000 → size ≤ 9325 → s.largest ≤ 9325 → s.fetches ≤ 20000 → s.limits ≤ 4096 * s.fetches → s.copies ≤ 20000 → within segment s size ≡ Ok s
unfolding within
counts_within segment s size seg commands small largest fetches limits copies =
    let reads : s.fetches * s.largest ≤ s.fetches * 9325 = mul-le-mul_left s.fetches largest in
    let most : max segment s.largest ≤ 9325 = omega (arith, seg, largest) in
    let puts : s.copies * max segment s.largest ≤ s.copies * 9325 = mul-le-mul_left s.copies most in
    let sum : s.limits + s.fetches * s.largest ≤ 2 ^ 28 = omega (arith, reads, limits, fetches) in
    let parts : s.copies * max segment s.largest ≤ 2 ^ 31 = omega (arith, puts, copies) in
    rw (
      le-ltb 65536 s.commands (omega (arith, commands)),
      le-ltb 1048576 size (omega (arith, small)),
      le-ltb (2 ^ 28) (s.limits + s.fetches * s.largest) sum,
      le-ltb (2 ^ 31) (s.copies * max segment s.largest) parts,
    )
    refl
