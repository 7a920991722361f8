-- A batch that was built passes the tests, and its records are those that it was built of.
use Rattle.std.proofs.Common.{◌≡◌, ◌∙◌, ap, refl, ℕ, ◌+◌, ◌-◌, ◌%◌, ◌^◌, ◌<◌, ◌≤◌, ◌==◌, nat_lt, true, false, ℤ, FitsSigned, All, List, [], ◌∷◌, length, drop, map, slice_index, None, Result, Ok, arith, eq-eqb, le-ltb}
use Rattle.std.specs.Int.{w16, w32, w64, cast_signed, cast_unsigned, int_wrapping_add, int_wrapping_sub}
use Rattle.std.proofs.Math.Facts.{Fits-of_z, Fits-lt-pow}
use Rattle.std.proofs.lemmas.Bool.{ne_eqb}
use Rattle.std.proofs.lemmas.Int.{to_z-of_z, of_z-to_z}
use Rattle.std.proofs.lemmas.List.Elements.{All-head, All-tail}
use Rattle.std.proofs.lemmas.Nat.{from_be_bytes-to_be_bytes_4, from_be_bytes-to_be_bytes_8}
use Rattle.batch_prims.specs.Crc.{crc32c}
use Rattle.log_terms.specs.Batch.{field_at}
use Rattle.record_batch.specs.declared.head.Head.{Head}
use Rattle.record_batch.specs.declared.rec.Rec.{Rec}
use Rattle.record_batch.specs.Head.{head_of}
use Rattle.record_batch.specs.Record.{DeltaRec}
use Rattle.record_batch.specs.Build.{deltas_from, first_ts, u32_bytes, ts_bytes, no_producer, early_head, late_head, all_bytes, covered, sealed, built, IsBuildable, HaveWidths}
use Rattle.record_batch.specs.Check.{head_refusal, sum_refusal, flag_refusal, count_refusal, records_from, ts_in, rec_in, batch_of, checked}
use Rattle.record_batch.specs.Stamp.{stamped}
use Rattle.record_batch.proofs.Counts.{length_built, buildable_few}
use Rattle.record_batch.proofs.BuildLaws.{length-covered, built_long}
use Rattle.record_batch.proofs.Passing.{Passes, checked_lem}
use Rattle.record_batch.proofs.Again.{NumberLaws, records_again}
use Rattle.record_batch.proofs.StampChecked.{stamped_checked}

-- batch_length
length-field : (recs : List Rec) → length (built recs) ≤ 1048576 → field_at w32 8 (built recs) ≡ length (built recs) - 12
unfolding field_at built sealed early_head u32_bytes
length-field recs h =
    let size : length (built recs) ≡ 21 + length (covered recs) = length-covered recs in
    from_be_bytes-to_be_bytes_4 (21 + length (covered recs) - 12) (omega arith) ∙ (let same : 21 + length (covered recs) - 12 ≡ length (built recs) - 12 = omega arith in same)

-- crc
sum-field : (recs : List Rec) → crc32c (covered recs) < 2 ^ 32 → field_at w32 17 (built recs) ≡ crc32c (covered recs)
unfolding field_at built sealed early_head u32_bytes
sum-field recs h = from_be_bytes-to_be_bytes_4 (crc32c (covered recs)) h

-- magic
magic-field : (recs : List Rec) → slice_index (built recs) 16 ≡ 2
unfolding built sealed early_head u32_bytes
magic-field recs = refl

-- what the checksum covers
drop-built : (recs : List Rec) → drop 21 (built recs) ≡ covered recs
unfolding built sealed early_head u32_bytes
drop-built recs = refl

-- attributes
flags-field : (recs : List Rec) → field_at w16 21 (built recs) ≡ 0
unfolding field_at built sealed early_head late_head u32_bytes
flags-field recs = refl

-- last_offset_delta
last-field : (recs : List Rec) → length recs ≤ 1048576 → field_at w32 23 (built recs) ≡ length recs - 1
unfolding field_at built sealed early_head late_head u32_bytes
last-field recs few = from_be_bytes-to_be_bytes_4 (length recs - 1) (omega arith)

-- base_ts
base_ts-field : (recs : List Rec) → FitsSigned w64 (first_ts recs) → field_at w64 27 (built recs) ≡ cast_unsigned w64 (first_ts recs)
unfolding field_at built sealed early_head late_head u32_bytes ts_bytes
base_ts-field recs fits = from_be_bytes-to_be_bytes_8 (cast_unsigned w64 (first_ts recs)) (Fits-lt-pow {w = w64} (Fits-of_z {w = w64} fits))

-- records_count
count-field : (recs : List Rec) → length recs ≤ 1048576 → field_at w32 57 (built recs) ≡ length recs
unfolding field_at built sealed early_head late_head u32_bytes ts_bytes no_producer
count-field recs few = from_be_bytes-to_be_bytes_4 (length recs) (omega arith)

-- the records
records-built : (recs : List Rec) → drop 61 (built recs) ≡ all_bytes recs
unfolding built sealed early_head late_head u32_bytes ts_bytes no_producer
records-built recs = refl

-- tests 1 to 3
head-passes : (recs : List Rec) → length (built recs) ≤ 1048576 → head_refusal (built recs) ≡ None
unfolding head_refusal
head-passes recs h =
    let low : 61 ≤ length (built recs) = built_long recs in
    let long : nat_lt (length (built recs)) 61 ≡ false = le-ltb (length (built recs)) 61 low in
    let over : nat_lt (length (built recs) - 12) 49 ≡ false = le-ltb (length (built recs) - 12) 49 (omega arith) in
    let under : nat_lt 1048564 (length (built recs) - 12) ≡ false = le-ltb 1048564 (length (built recs) - 12) (omega arith) in
    rw (long, magic-field recs, length-field recs h, over, under) refl

-- tests 4 and 5
sum-passes : (recs : List Rec) → length (built recs) ≤ 1048576 → crc32c (covered recs) < 2 ^ 32 → sum_refusal (built recs) ≡ None
unfolding sum_refusal
sum-passes recs h small =
    let low : 61 ≤ length (built recs) = built_long recs in
    let all : 12 + (length (built recs) - 12) ≡ length (built recs) = omega arith in
    let same : nat_lt (length (built recs)) (length (built recs)) ≡ false = le-ltb (length (built recs)) (length (built recs)) (omega arith) in
    let kept : (crc32c (covered recs) == crc32c (covered recs)) ≡ true = eq-eqb (crc32c (covered recs)) (crc32c (covered recs)) refl in
    rw (length-field recs h, all, same, sum-field recs small, drop-built recs, kept) refl

-- tests 6 to 8
flags-pass : flag_refusal 0 ≡ None
unfolding flag_refusal
flags-pass = refl

-- tests 9 and 10
count-passes : (n : ℕ) → 0 < n → n ≤ 1048576 → count_refusal n (n - 1) ≡ None
unfolding count_refusal
count-passes n some few =
    let not_none : (n == 0) ≡ false = ne_eqb n 0 (λ e. omega arith) in
    let not_many : nat_lt 2147483647 n ≡ false = le-ltb 2147483647 n (omega arith) in
    let own : (n - 1 == n - 1) ≡ true = eq-eqb (n - 1) (n - 1) refl in
    rw (not_none, not_many, own) refl

-- all of these tests
built-passes : (recs : List Rec) → IsBuildable recs → crc32c (covered recs) < 2 ^ 32 → Passes (built recs)
built-passes recs b small =
    let few : length recs ≤ 1048576 = buildable_few recs b in record {
      head = head-passes recs b.fits;
      sum = sum-passes recs b.fits small;
      flags = ap flag_refusal (flags-field recs) ∙ flags-pass;
      count = rw (count-field recs few, last-field recs few) (count-passes (length recs) b.some few);
    }

-- a distance is undone
there-and-back : (x y : ℤ) → FitsSigned w64 x → FitsSigned w64 y → int_wrapping_add w64 x (int_wrapping_sub w64 y x) ≡ y
there-and-back x y f g =
    let low : cast_unsigned w64 x < 2 ^ 64 = Fits-lt-pow {w = w64} (Fits-of_z {w = w64} f) in
    let high : cast_unsigned w64 y < 2 ^ 64 = Fits-lt-pow {w = w64} (Fits-of_z {w = w64} g) in
    let inner : cast_unsigned w64 (cast_signed w64 ((cast_unsigned w64 y + (2 ^ 64 - cast_unsigned w64 x)) % 2 ^ 64)) ≡ (cast_unsigned w64 y + (2 ^ 64 - cast_unsigned w64 x)) % 2 ^ 64
    = of_z-to_z w64 ((cast_unsigned w64 y + (2 ^ 64 - cast_unsigned w64 x)) % 2 ^ 64) (omega arith) in
    let sum : (cast_unsigned w64 x + (cast_unsigned w64 y + (2 ^ 64 - cast_unsigned w64 x)) % 2 ^ 64) % 2 ^ 64 ≡ cast_unsigned w64 y = omega arith in
    ap (λ (k : ℕ). cast_signed w64 ((cast_unsigned w64 x + k) % 2 ^ 64)) inner
    ∙ (ap (λ (k : ℕ). cast_signed w64 k) sum ∙ to_z-of_z w64 y g)

-- each record has its timestamp again
restored : (head : Head) (base_ts : ℤ) (n : ℕ) (recs : List Rec) → cast_unsigned w16 head.attributes ≡ 0 → head.base_ts ≡ base_ts
    → FitsSigned w64 base_ts → All (λ (r : Rec). FitsSigned w64 r.ts) recs → map (rec_in head) (deltas_from base_ts n recs) ≡ recs
restored head base_ts n [] plain same fits times = refl
restored head base_ts n (r ∷ recs) plain same fits times =
    let timed : ℤ → Rec = λ t. record { ts = t; key = r.key; value = r.value; headers = r.headers } in
    let ts : ts_in head (int_wrapping_sub w64 r.ts base_ts) ≡ r.ts
    = rw (plain, same) (there-and-back base_ts r.ts fits (All-head (λ (x : Rec). FitsSigned w64 x.ts) r recs times)) in
    ap (λ (t : ℤ). timed t ∷ map (rec_in head) (deltas_from base_ts (n + 1) recs)) ts
    ∙ ap (λ (t : List Rec). r ∷ t) (restored head base_ts (n + 1) recs plain same fits (All-tail (λ (x : Rec). FitsSigned w64 x.ts) r recs times))

-- the attributes, as the head of a batch has them
attributes-built : (recs : List Rec) → cast_unsigned w16 (head_of (built recs)).attributes ≡ 0
unfolding head_of
attributes-built recs = rw (flags-field recs) (of_z-to_z w16 0 (omega arith))

-- the base timestamp, as the head of a batch has it
base_ts-built : (recs : List Rec) → FitsSigned w64 (first_ts recs) → (head_of (built recs)).base_ts ≡ first_ts recs
unfolding head_of
base_ts-built recs fits = rw (base_ts-field recs fits) (to_z-of_z w64 (first_ts recs) fits)

-- the first timestamp has 64 bits where each has
first-fits : (recs : List Rec) → All (λ (r : Rec). FitsSigned w64 r.ts) recs → 0 < length recs → FitsSigned w64 (first_ts recs)
first-fits [] times some = absurd (omega arith)
first-fits (r ∷ recs) times some = All-head (λ (x : Rec). FitsSigned w64 x.ts) r recs times

-- the records are read as they were written
records-read : NumberLaws → (recs : List Rec) → IsBuildable recs → records_from (length recs) 0 (all_bytes recs) ≡ Ok (deltas_from (first_ts recs) 0 recs)
unfolding all_bytes
records-read laws recs b =
    let few : length recs ≤ 1048576 = buildable_few recs b in
    records_again laws (first_ts recs) 0 recs (omega arith) (omega (arith, length_built recs, b.fits))

-- the batch that was built is a batch of its records
pub built_checked : NumberLaws → (recs : List Rec) → IsBuildable recs → HaveWidths recs
    → checked (built recs) ≡ Ok (record { head = head_of (built recs); recs = recs })
built_checked laws recs b w =
    let few : length recs ≤ 1048576 = buildable_few recs b in
    let fits : FitsSigned w64 (first_ts recs) = first-fits recs w.times b.some in
    let read : records_from (field_at w32 57 (built recs)) 0 (drop 61 (built recs)) ≡ Ok (deltas_from (first_ts recs) 0 recs)
    = rw (count-field recs few, records-built recs) (records-read laws recs b) in
    checked_lem (built recs) (built-passes recs b w.sum)
    ∙ (ap (λ (r : Result (List DeltaRec) ℕ). batch_of (head_of (built recs)) (length (built recs)) r) read
    ∙ ap (λ (rs : List Rec). Ok (record { head = head_of (built recs); recs = rs }))
    (restored (head_of (built recs)) (first_ts recs) 0 recs (attributes-built recs) (base_ts-built recs fits) fits w.times))

-- wherever the batch is placed
pub placed_checked : NumberLaws → (recs : List Rec) (base epoch : ℕ) → IsBuildable recs → HaveWidths recs
    → checked (stamped (built recs) base epoch) ≡ Ok (record { head = head_of (stamped (built recs) base epoch); recs = recs })
placed_checked laws recs base epoch b w =
    stamped_checked (built recs) (record { head = head_of (built recs); recs = recs }) base epoch (built_checked laws recs b w)
