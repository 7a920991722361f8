-- What is found is there, with the numbers that its head gives.
use Rattle.std.proofs.Common.{◌≡◌, ◌∙◌, ap, sym, refl, ℕ, zero, suc, ◌+◌, ◌-◌, ◌==◌, ◌^◌, ◌<◌, ◌≤◌, nat_lt, Bool, true, false, cond, List, [], ◌∷◌, ◌++◌, length, take, drop, get_or, ℤ, Result, Ok, Err, IsOk, arith, length-drop}
use Rattle.std.specs.Int.{w32, w64, from_be_bytes, cast_signed, cast_unsigned}
use Rattle.std.proofs.lemmas.Bool.{ltb-false}
use Rattle.std.proofs.lemmas.Int.{of_z-to_z}
use Rattle.std.proofs.lemmas.List.{take-append-drop, drop-drop, length-take-le}
use Rattle.log_terms.specs.Batch.{field_at, base_of, last_offset_delta_of}
use Rattle.record_batch.specs.declared.head.Head.{Head}
use Rattle.record_batch.specs.declared.refusal.HeadRefusal.{HeadRefusal}
use Rattle.record_batch.specs.declared.refusal.HeadRefusal.TheVariants.{Short, BadMagic, BadLength}
use Rattle.record_batch.specs.declared.refusal.BatchRefusal.{BatchRefusal}
use Rattle.record_batch.specs.Head.{head_of}
use Rattle.record_batch.specs.Check.{Batch, head_in, checked, headed}
use Rattle.record_batch.proofs.Passing.{is_batch_of}
use Rattle.segment_file.specs.declared.walking.Found.TheVariants as found
use Rattle.segment_file.specs.Walk.{size_in, tested_at, behind_at, found_at}
use Rattle.segment_file.proofs.Finding.{size_told, batch_found}

-- numbers that bytes can be
abbrev pub AreBytes : List ℕ → Type 0
AreBytes bytes = (i : ℕ) → get_or bytes i 0 < 256

-- and so can those of a part
pub bytes_take : (n : ℕ) (bytes : List ℕ) → AreBytes bytes → AreBytes (take n bytes)
bytes_take zero bytes h i = omega arith
bytes_take (suc n) [] h i = omega arith
bytes_take (suc n) (b ∷ bytes) h zero = h zero
bytes_take (suc n) (b ∷ bytes) h (suc i) = bytes_take n bytes (λ j. h (suc j)) i

pub bytes_drop : (n : ℕ) (bytes : List ℕ) → AreBytes bytes → AreBytes (drop n bytes)
bytes_drop zero bytes h i = h i
bytes_drop (suc n) [] h i = omega arith
bytes_drop (suc n) (b ∷ bytes) h i = bytes_drop n bytes (λ j. h (suc j)) i

pub front_bytes : (xs ys : List ℕ) → AreBytes (xs ++ ys) → AreBytes xs
front_bytes [] ys h i = omega arith
front_bytes (x ∷ xs) ys h zero = h zero
front_bytes (x ∷ xs) ys h (suc i) = front_bytes xs ys (λ j. h (suc j)) i

below_64 : (bs : List ℕ) → AreBytes bs → from_be_bytes w64 bs < 2 ^ 64
below_64 bs h =
    omega (
      arith,
      h 0,
      h 1,
      h 2,
      h 3,
      h 4,
      h 5,
      h 6,
      h 7,
    )

-- the base offset that a head gives
pub base_told : (batch : List ℕ) → AreBytes batch → cast_unsigned w64 (head_of batch).base_offset ≡ base_of batch
unfolding head_of base_of field_at
base_told batch h =
    of_z-to_z w64 (from_be_bytes w64 (take 8 (drop 0 batch))) (below_64 (take 8 (drop 0 batch)) (bytes_take 8 (drop 0 batch) (bytes_drop 0 batch h)))

-- and the last offset less that one
pub delta_told : (batch : List ℕ) (b : Batch) → checked batch ≡ Ok b → cast_unsigned w32 (head_of batch).last_offset_delta ≡ last_offset_delta_of batch
unfolding head_of last_offset_delta_of
delta_told batch b e =
    let few = (is_batch_of batch b e).few in
    of_z-to_z w32 (field_at w32 23 batch) (omega (arith, few))

-- what was found, out of its cases
record Told (bytes : List ℕ) (head : Head) : Type 0 where
  size : ℕ
  inside : size ≤ length bytes
  batch : Batch
  is : checked (take size bytes) ≡ Ok batch
  head_is : batch.head ≡ head

pub same_head : (h head : Head) → found.Batch h ≡ found.Batch head → h ≡ head
same_head h head e = cc

by_tests : (at size : ℕ) (bytes : List ℕ) (head : Head) (r : Result Batch BatchRefusal) → size ≤ length bytes → checked (take size bytes) ≡ r
    → tested_at at (head_in r) ≡ found.Batch head → Told bytes head
by_tests at size bytes head (Ok b) inside is e =
    record { size = size; inside = inside; batch = b; is = is; head_is = same_head b.head head e }
by_tests at size bytes head (Err why) inside is e = absurd (cc)

by_size : (at : ℕ) (bytes : List ℕ) (head h : Head) (t : Bool) → nat_lt (length bytes) (size_in h) ≡ t
    → cond t (found.Cut at) (tested_at at (head_in (checked (take (size_in h) bytes)))) ≡ found.Batch head → Told bytes head
by_size at bytes head h true is e = absurd (cc)
by_size at bytes head h false is e =
    by_tests at (size_in h) bytes head (checked (take (size_in h) bytes)) (ltb-false (length bytes) (size_in h) is) refl e

by_head : (at : ℕ) (bytes : List ℕ) (head : Head) (r : Result Head HeadRefusal) → behind_at at bytes r ≡ found.Batch head → Told bytes head
by_head at bytes head (Ok h) e = by_size at bytes head h (nat_lt (length bytes) (size_in h)) refl e
by_head at bytes head (Err Short) e = absurd (cc)
by_head at bytes head (Err BadMagic) e = absurd (cc)
by_head at bytes head (Err BadLength) e = absurd (cc)

by_length : (at : ℕ) (bytes : List ℕ) (head : Head) (t : Bool) → cond t found.End (behind_at at bytes (headed bytes)) ≡ found.Batch head → Told bytes head
by_length at bytes head true e = absurd (cc)
by_length at bytes head false e = by_head at bytes head (headed bytes) e

told : (at : ℕ) (bytes : List ℕ) (head : Head) → found_at at bytes ≡ found.Batch head → Told bytes head
unfolding found_at
told at bytes head e = by_length at bytes head (length bytes == 0) e

-- a number that is cast to and fro stays
pub again_64 : (z : ℤ) (n : ℕ) → cast_unsigned w64 z ≡ n → n < 2 ^ 64 → cast_unsigned w64 (cast_signed w64 (cast_unsigned w64 z)) ≡ n
again_64 z n e h = rw e (of_z-to_z w64 n h)

pub again_32 : (z : ℤ) (n : ℕ) → cast_unsigned w32 z ≡ n → n < 2 ^ 32 → cast_unsigned w32 (cast_signed w32 (cast_unsigned w32 z)) ≡ n
again_32 z n e h = rw e (of_z-to_z w32 n h)

-- a base offset is below 2^64
base_fits : (batch : List ℕ) → AreBytes batch → base_of batch < 2 ^ 64
unfolding base_of field_at
base_fits batch h = below_64 (take 8 (drop 0 batch)) (bytes_take 8 (drop 0 batch) (bytes_drop 0 batch h))

delta_fits : (batch : List ℕ) (b : Batch) → checked batch ≡ Ok b → last_offset_delta_of batch < 2 ^ 32
delta_fits batch b e = let few = (is_batch_of batch b e).few in omega (arith, few)

-- a batch that is at a place, and its head
pub record Standing (at : ℕ) (bytes : List ℕ) (head : Head) : Type 0 where
  pub batch : List ℕ
  pub head_is : head ≡ head_of batch
  pub is : IsOk (checked batch)
  pub parts : drop at bytes ≡ batch ++ drop (at + size_in head) bytes
  pub size : size_in head ≡ length batch
  pub some : 0 < length batch
  pub inside : at + size_in head ≤ length bytes
  pub base : cast_unsigned w64 (cast_signed w64 (cast_unsigned w64 head.base_offset)) ≡ base_of batch
  pub delta : cast_unsigned w32 (cast_signed w32 (cast_unsigned w32 head.last_offset_delta)) ≡ last_offset_delta_of batch

pub standing : (at : ℕ) (bytes : List ℕ) (head : Head) → AreBytes bytes → at ≤ length bytes → found_at at (drop at bytes) ≡ found.Batch head → Standing at bytes head
standing at bytes head clean fits e =
    let rest = drop at bytes in
    let t = told at rest head e in
    let batch = take t.size rest in
    let is = is_batch_of batch t.batch t.is in
    let many : length batch ≡ t.size = length-take-le t.size rest t.inside in
    let same : head ≡ head_of batch = sym t.head_is ∙ is.head in
    let size : size_in head ≡ length batch = ap size_in same ∙ size_told batch t.batch t.is in
    let back : drop t.size rest ≡ drop (at + size_in head) bytes = drop-drop t.size at bytes ∙ ap (λ k. drop (at + k) bytes) (sym (size ∙ many)) in
    let left : length rest ≡ length bytes - at = length-drop at bytes in
    let bound : t.size ≤ length rest = t.inside in
    let long : 61 ≤ length batch = is.long in
    let clean' : AreBytes batch = bytes_take t.size rest (bytes_drop at bytes clean) in record {
      batch = batch;
      head_is = same;
      is = rw t.is refl;
      parts = rw (← back) (sym (take-append-drop t.size rest));
      size = size;
      some = omega (arith, long);
      inside = omega (arith, size, many, left, bound, fits);
      base = again_64 head.base_offset (base_of batch) (ap (λ (h : Head). cast_unsigned w64 h.base_offset) same ∙ base_told batch clean') (base_fits batch clean');
      delta = again_32 head.last_offset_delta (last_offset_delta_of batch) (ap (λ (h : Head). cast_unsigned w32 h.last_offset_delta) same ∙ delta_told batch t.batch t.is) (delta_fits batch t.batch t.is);
    }

-- the numbers of any batch that is there
pub record Numbers (batch : List ℕ) (head : Head) : Type 0 where
  pub base : cast_unsigned w64 (cast_signed w64 (cast_unsigned w64 head.base_offset)) ≡ base_of batch
  pub delta : cast_unsigned w32 (cast_signed w32 (cast_unsigned w32 head.last_offset_delta)) ≡ last_offset_delta_of batch

pub numbers : (at : ℕ) (bytes : List ℕ) (head : Head) (batch more : List ℕ) → AreBytes bytes → found_at at (drop at bytes) ≡ found.Batch head
    → drop at bytes ≡ batch ++ more → IsOk (checked batch) → Numbers batch head
numbers at bytes head batch more clean e parts ok =
    let there : found_at at (batch ++ more) ≡ found.Batch head = rw (← parts) e in
    let same : head_of batch ≡ head = same_head (head_of batch) head (sym (batch_found at batch more ok) ∙ there) in
    let clean' : AreBytes (batch ++ more) = rw (← parts) (bytes_drop at bytes clean) in
    go (checked batch) refl ok same (front_bytes batch more clean')
  where
    go : (r : Result Batch BatchRefusal) → checked batch ≡ r → IsOk r → head_of batch ≡ head → AreBytes batch → Numbers batch head
    go (Ok b) is ok same clean = record {
      base = again_64 head.base_offset (base_of batch) (ap (λ (h : Head). cast_unsigned w64 h.base_offset) (sym same) ∙ base_told batch clean) (base_fits batch clean);
      delta = again_32 head.last_offset_delta (last_offset_delta_of batch) (ap (λ (h : Head). cast_unsigned w32 h.last_offset_delta) (sym same) ∙ delta_told batch b is) (delta_fits batch b is);
    }
    go (Err why) is ok same clean = absurd (cc)
