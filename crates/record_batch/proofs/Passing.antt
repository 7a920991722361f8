-- What holds of bytes that pass the tests.
use Rattle.std.proofs.Common.{◌≡◌, ◌∙◌, sym, ap, refl, ℕ, zero, suc, ◌+◌, ◌-◌, ◌<◌, ◌≤◌, ◌==◌, nat_lt, Bool, true, false, cond, not, List, [], ◌∷◌, length, drop, map, slice_index, Option, Some, None, IsSome, Result, Ok, Err, IsOk, arith}
use Rattle.std.specs.Int.{w16, w32}
use Rattle.std.proofs.lemmas.Bool.{ltb-false, eqb-true}
use Rattle.std.proofs.lemmas.List.{length-map}
use Rattle.log_terms.specs.Batch.{field_at, last_offset_delta_of}
use Rattle.record_batch.specs.declared.head.Head.{Head}
use Rattle.record_batch.specs.declared.rec.Rec.{Rec}
use Rattle.record_batch.specs.declared.refusal.HeadRefusal.{HeadRefusal}
use Rattle.record_batch.specs.declared.refusal.BatchRefusal.{BatchRefusal}
use Rattle.record_batch.specs.Head.{head_of}
use Rattle.record_batch.specs.Record.{DeltaRec, record_at}
use Rattle.record_batch.specs.Check.{Batch, head_refusal, sum_refusal, flag_refusal, count_refusal, with_number, records_from, rec_in, batch_of, first, head_test, head_in, checked, IsBatchOf, ◌>>=◌}
use Rattle.record_batch.specs.Read.{all_read}

-- the tests all pass, and the records decide
pub record Passes (bytes : List ℕ) : Type 0 where
  pub head : head_refusal bytes ≡ None
  pub sum : sum_refusal bytes ≡ None
  pub flags : flag_refusal (field_at w16 21 bytes) ≡ None
  pub count : count_refusal (field_at w32 57 bytes) (field_at w32 23 bytes) ≡ None

-- four tests that pass
four : {A E : Type 0} (s t u v : Option E) (last : Result A E) → IsOk (first s (first t (first u (first v last))))
    → (s ≡ None) × (t ≡ None) × (u ≡ None) × (v ≡ None)
four None None None None last ok = (refl, refl, refl, refl)
four None None None (Some why) last ok = absurd (cc)
four None None (Some why) v last ok = absurd (cc)
four None (Some why) u v last ok = absurd (cc)
four (Some why) t u v last ok = absurd (cc)

-- a test of a head that passes
no-head : (t : Option HeadRefusal) → head_test t ≡ None → t ≡ None
no-head None e = refl
no-head (Some why) e = absurd (cc)

-- a batch passes the tests
pub passes : (bytes : List ℕ) → IsOk (checked bytes) → Passes bytes
unfolding checked
passes bytes ok =
    let all : (head_test (head_refusal bytes) ≡ None) × (sum_refusal bytes ≡ None) × (flag_refusal (field_at w16 21 bytes) ≡ None)
    × (count_refusal (field_at w32 57 bytes) (field_at w32 23 bytes) ≡ None)
    = four (head_test (head_refusal bytes)) (sum_refusal bytes) (flag_refusal (field_at w16 21 bytes)) (count_refusal (field_at w32 57 bytes) (field_at w32 23 bytes))
    (batch_of (head_of bytes) (length bytes) (records_from (field_at w32 57 bytes) 0 (drop 61 bytes))) ok in record {
      head = no-head (head_refusal bytes) all.0;
      sum = all.1;
      flags = all.2;
      count = all.3;
    }

-- what the records decide
pub checked_lem : (bytes : List ℕ) → Passes bytes
    → checked bytes ≡ batch_of (head_of bytes) (length bytes) (records_from (field_at w32 57 bytes) 0 (drop 61 bytes))
unfolding checked
checked_lem bytes p = rw (p.head, p.sum, p.flags, p.count) refl

-- a test that passes
no-why : {E : Type 0} (t : Bool) (why : E) (next : Option E) → cond t (Some why) next ≡ None → (t ≡ false) × (next ≡ None)
no-why true why next e = absurd (cc)
no-why false why next e = (refl, e)

-- two tests that pass, and those that come after them
two : {E : Type 0} (s t : Bool) (why other : E) (next : Option E) → cond s (Some why) (cond t (Some other) next) ≡ None
    → (s ≡ false) × (t ≡ false) × (next ≡ None)
two true t why other next e = absurd (cc)
two false true why other next e = absurd (cc)
two false false why other next e = (refl, refl, e)

-- what is not false is true
not-false : (t : Bool) → not t ≡ false → t ≡ true
not-false true e = refl
not-false false e = absurd (cc)

-- a number other than 0 is above it
zero-or-more : (n : ℕ) → (n == 0) ≡ false → 0 < n
zero-or-more zero e = absurd (cc)
zero-or-more (suc n) e = omega arith

-- test 1 passed
pub head_long : (bytes : List ℕ) → head_refusal bytes ≡ None → 61 ≤ length bytes
unfolding head_refusal
head_long bytes e = ltb-false (length bytes) 61 ((no-why _ _ _ e).0)

-- test 3 passed
head-short : (bytes : List ℕ) → head_refusal bytes ≡ None → field_at w32 8 bytes ≤ 1048564
unfolding head_refusal
head-short bytes e =
    let front = two (nat_lt (length bytes) 61) (not (slice_index bytes 16 == 2)) _ _ _ e in
    let back = two (nat_lt (field_at w32 8 bytes) 49) (nat_lt 1048564 (field_at w32 8 bytes)) _ _ _ front.2 in
    ltb-false 1048564 (field_at w32 8 bytes) back.1

-- test 4 passed
sum-size : (bytes : List ℕ) → sum_refusal bytes ≡ None → length bytes ≡ 12 + field_at w32 8 bytes
unfolding sum_refusal
sum-size bytes e =
    let tests = two (nat_lt (length bytes) (12 + field_at w32 8 bytes)) (nat_lt (12 + field_at w32 8 bytes) (length bytes)) _ _ _ e in
    let enough : 12 + field_at w32 8 bytes ≤ length bytes = ltb-false (length bytes) (12 + field_at w32 8 bytes) tests.0 in
    let no_more : length bytes ≤ 12 + field_at w32 8 bytes = ltb-false (12 + field_at w32 8 bytes) (length bytes) tests.1 in
    omega arith

-- tests 9 and 10 passed
count-facts : (count last : ℕ) → count_refusal count last ≡ None → (0 < count) × (count ≤ 2147483647) × (last ≡ count - 1)
unfolding count_refusal
count-facts count last e =
    let tests = two (count == 0) (nat_lt 2147483647 count) _ _ _ e in
    let own = no-why (not (last == count - 1)) _ None tests.2 in
    (zero-or-more count tests.0, ltb-false 2147483647 count tests.1, eqb-true last (count - 1) (not-false (last == count - 1) own.0))

-- the records of a batch that is one
pub batch-parts : (head : Head) (size : ℕ) (r : Result (List DeltaRec) ℕ) (b : Batch) → batch_of head size r ≡ Ok b
    → (rs : List DeltaRec) × (r ≡ Ok rs) × (record { head = head; recs = map (rec_in head) rs } ≡ b)
batch-parts head size (Ok rs) b e = (rs, refl, cc)
batch-parts head size (Err left) b e = absurd (cc)

-- the records of a batch were all read
pub read_some : (head : Head) (size : ℕ) (r : Result (List DeltaRec) ℕ) → IsOk (batch_of head size r) → IsSome (all_read head r)
read_some head size (Ok rs) ok = refl
read_some head size (Err left) ok = absurd (cc)

-- records that were all read make the batch
read-batch : (head : Head) (size : ℕ) (r : Result (List DeltaRec) ℕ) (recs : List Rec) → all_read head r ≡ Some recs
    → batch_of head size r ≡ Ok (record { head = head; recs = recs })
read-batch head size (Ok rs) recs e =
    let same : map (rec_in head) rs ≡ recs = cc in
    ap (λ (t : List Rec). Ok (record { head = head; recs = t })) same
read-batch head size (Err left) recs e = absurd (cc)

-- the records that were read are the batch's
pub all_read_is_checked : (bytes : List ℕ) (recs : List Rec) → IsOk (checked bytes)
    → all_read (head_of bytes) (records_from (field_at w32 57 bytes) 0 (drop 61 bytes)) ≡ Some recs
    → checked bytes ≡ Ok (record { head = head_of bytes; recs = recs })
all_read_is_checked bytes recs ok e =
    checked_lem bytes (passes bytes ok)
    ∙ read-batch (head_of bytes) (length bytes) (records_from (field_at w32 57 bytes) 0 (drop 61 bytes)) recs e

-- the records of a batch are all read
pub checked_read : (bytes : List ℕ) → IsOk (checked bytes) → IsSome (all_read (head_of bytes) (records_from (field_at w32 57 bytes) 0 (drop 61 bytes)))
checked_read bytes ok =
    read_some (head_of bytes) (length bytes) (records_from (field_at w32 57 bytes) 0 (drop 61 bytes)) (rw (← checked_lem bytes (passes bytes ok)) ok)

-- a batch has a head
pub checked_long : (bytes : List ℕ) → IsOk (checked bytes) → 61 ≤ length bytes
checked_long bytes ok = head_long bytes (passes bytes ok).head

-- a record and others that were read
cons-parts : (r : DeltaRec) (o : Result (List DeltaRec) ℕ) (rs : List DeltaRec) → (o >>= λ others. Ok (r ∷ others)) ≡ Ok rs
    → (others : List DeltaRec) × (o ≡ Ok others) × (r ∷ others ≡ rs)
cons-parts r (Ok others) rs e = (others, refl, cc)
cons-parts r (Err left) rs e = absurd (cc)

-- a first record and others that were read
read-parts : (count n : ℕ) (w : Result (DeltaRec × List ℕ) ℕ) (rs : List DeltaRec)
    → (w >>= λ x. (records_from count (n + 1) x.1 >>= λ others. Ok (x.0 ∷ others))) ≡ Ok rs
    → (x : DeltaRec × List ℕ) × (others : List DeltaRec) × (records_from count (n + 1) x.1 ≡ Ok others) × (x.0 ∷ others ≡ rs)
read-parts count n (Ok x) rs e =
    let parts = cons-parts x.0 (records_from count (n + 1) x.1) rs e in (x, parts.0, parts.1, parts.2)
read-parts count n (Err left) rs e = absurd (cc)

-- as many records are read as the head says
length-records_from : (count n : ℕ) (bytes : List ℕ) (rs : List DeltaRec) → records_from count n bytes ≡ Ok rs → length rs ≡ count
length-records_from zero n [] rs e = let none : [] ≡ rs = cc in ap length (sym none)
length-records_from zero n (b ∷ bytes) rs e = absurd (cc)
length-records_from (suc count) n bytes rs e =
    let parts = read-parts count n (with_number n (length bytes) (record_at bytes)) rs e in
    let others : length parts.1 ≡ count = length-records_from count (n + 1) parts.0.1 parts.1 parts.2 in
    ap length (sym parts.3) ∙ (let up : length (parts.0.0 ∷ parts.1) ≡ suc count = omega (arith, others) in up)

-- what holds of bytes that are a batch
pub is_batch_of : (bytes : List ℕ) (batch : Batch) → checked bytes ≡ Ok batch → IsBatchOf bytes batch
unfolding last_offset_delta_of
is_batch_of bytes batch e =
    let p : Passes bytes = passes bytes (rw e refl) in
    let facts : (0 < field_at w32 57 bytes) × (field_at w32 57 bytes ≤ 2147483647) × (field_at w32 23 bytes ≡ field_at w32 57 bytes - 1)
    = count-facts (field_at w32 57 bytes) (field_at w32 23 bytes) p.count in
    let parts = batch-parts (head_of bytes) (length bytes) (records_from (field_at w32 57 bytes) 0 (drop 61 bytes)) batch (sym (checked_lem bytes p) ∙ e) in
    let many : length parts.0 ≡ field_at w32 57 bytes = length-records_from (field_at w32 57 bytes) 0 (drop 61 bytes) parts.0 parts.1 in
    let size : length bytes ≡ 12 + field_at w32 8 bytes = sum-size bytes p.sum in
    let small : field_at w32 8 bytes ≤ 1048564 = head-short bytes p.head in record {
      head = sym (ap (λ (b : Batch). b.head) parts.2);
      long = head_long bytes p.head;
      short = omega arith;
      size = size;
      count = sym (ap (λ (b : Batch). length b.recs) parts.2) ∙ (length-map parts.0 (rec_in (head_of bytes)) ∙ omega (arith, many, facts.0, facts.1, facts.2));
      few = omega (arith, facts.0, facts.1, facts.2);
    }

-- a head is answered of a batch alone
pub head_in_ok : (r : Result Batch BatchRefusal) (h : Head) → Ok h ≡ head_in r → IsOk r
head_in_ok (Ok batch) h e = refl
head_in_ok (Err why) h e = absurd (cc)
