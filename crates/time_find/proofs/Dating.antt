-- What is left of a run that is searched, batch by batch.
use Rattle.std.proofs.Common.{◌≡◌, ◌∙◌, ap, sym, refl, subst, ℕ, ◌+◌, ◌-◌, ◌<◌, ◌≤◌, ◌^◌, min, max, true, false, ℤ, List, [], ◌∷◌, ◌++◌, length, drop, Some, Result, Ok, arith, length-append}
use Rattle.std.specs.Prelude.{int_lt, ◌≤ℤ◌, ◌<ℤ◌}
use Rattle.std.specs.Int.{w32, w64, cast_unsigned}
use Rattle.std.proofs.lemmas.Int.{ints}
use Rattle.log_terms.specs.Batch.{base_of, last_of, max_ts_of}
use Rattle.log_terms.specs.Log.{joined, end_from}
use Rattle.record_batch.specs.declared.head.Head.{Head}
use Rattle.record_batch.specs.declared.refusal.HeadRefusal.{HeadRefusal}
use Rattle.record_batch.specs.Check.{checked, headed}
use Rattle.record_batch.specs.Head.{head_of}
use Rattle.record_batch.proofs.Passing.{checked_long}
use Rattle.plain_log.specs.RowsOfReads.{first_at}
use Rattle.segment_file.specs.Walk.{size_in}
use Rattle.segment_file.specs.Gathering.{HeadDescribes}
use Rattle.segment_file.proofs.Standing.{AreBytes, bytes_drop, front_bytes}
use Rattle.segment_file.proofs.Telling.{is_observable}
use Rattle.segment_file.proofs.Tracking.{head_read}
use Rattle.tier_fetch.specs.Span.{capped}
use Rattle.time_find.specs.Dates.{AreAllChecked, IsDated}
use Rattle.time_find.specs.declared.run.Dated.TheVariants.{At, Behind}

-- the batches whose bytes are left: they have of the timestamp what all have, and end where all end
pub record IsLeft (ts : ℤ) (start offset : ℕ) (batches : List (List ℕ)) (rest : List ℕ) (end : ℕ) : Type 0 where
  pub left : List (List ℕ)
  pub clean : AreBytes rest
  pub checked : AreAllChecked left
  pub bytes_are : rest ≡ joined left
  pub same : first_at ts start left ≡ first_at ts start batches
  pub ends : end_from end left ≡ end_from offset batches

-- whatever batches the run has, their rest is left
abbrev pub GoesBy : ℤ → ℕ → ℕ → List ℕ → List ℕ → ℕ → Type 0
GoesBy ts start offset run rest end =
    AreBytes run → (batches : List (List ℕ)) → AreAllChecked batches → end_from offset batches < 2 ^ 64 → run ≡ joined batches → IsLeft ts start offset batches rest end

-- at first all are left
pub all_left : (ts : ℤ) (start offset : ℕ) (run : List ℕ) → GoesBy ts start offset run run offset
all_left ts start offset run = λ clean batches ok fits are. record { left = batches; clean = clean; checked = ok; bytes_are = are; same = refl; ends = refl }

-- the batch that is next, and those after it
pub record Stands (ts : ℤ) (start offset : ℕ) (batches : List (List ℕ)) (rest : List ℕ) (head : Head) : Type 0 where
  pub batch : List ℕ
  pub more : List (List ℕ)
  pub clean : AreBytes rest
  pub checked : AreAllChecked more
  pub parts : rest ≡ batch ++ joined more
  pub is_observable : HeadDescribes batch head
  pub same : first_at ts start (batch ∷ more) ≡ first_at ts start batches
  pub ends : end_from (last_of batch + 1) more ≡ end_from offset batches

-- the head that is read is that of the first batch
by_left : (ts : ℤ) (start offset : ℕ) (batches : List (List ℕ)) (rest : List ℕ) (end : ℕ) (left : List (List ℕ)) → AreBytes rest → 0 < length rest → AreAllChecked left
    → rest ≡ joined left → first_at ts start left ≡ first_at ts start batches → end_from end left ≡ end_from offset batches
    → (head : Head) × (headed rest ≡ Ok head) × Stands ts start offset batches rest head
by_left ts start offset batches rest end [] clean some ok parts same ends =
    let none : length rest ≡ 0 = ap length parts in
    absurd (omega (arith, some, none))
by_left ts start offset batches rest end (batch ∷ more) clean some ok parts same ends =
    let clean' : AreBytes batch = front_bytes batch (joined more) (subst AreBytes parts clean) in (
      head_of batch,
      ap headed parts ∙ head_read batch (joined more) ok.0,
      record {
        batch = batch;
        more = more;
        clean = clean;
        checked = ok.1;
        parts = parts;
        is_observable = is_observable batch clean' ok.0;
        same = same;
        ends = ends;
      },
    )

same_ok : (r : Result Head HeadRefusal) (a b : Head) → r ≡ Ok a → r ≡ Ok b → a ≡ b
same_ok r a b e e' = cc

-- where bytes are left a head is read
pub head_stands : (ts : ℤ) (start offset : ℕ) (batches : List (List ℕ)) (rest : List ℕ) (end : ℕ) → 0 < length rest
    → IsLeft ts start offset batches rest end → (head : Head) × (headed rest ≡ Ok head)
head_stands ts start offset batches rest end some l =
    let found = by_left ts start offset batches rest end l.left l.clean some l.checked l.bytes_are l.same l.ends in
    (found.0, found.1)

-- and its batch is there
pub stands_first : (ts : ℤ) (start offset : ℕ) (batches : List (List ℕ)) (rest : List ℕ) (end : ℕ) (head : Head) → 0 < length rest
    → IsLeft ts start offset batches rest end → headed rest ≡ Ok head → Stands ts start offset batches rest head
stands_first ts start offset batches rest end head some l e =
    let found = by_left ts start offset batches rest end l.left l.clean some l.checked l.bytes_are l.same l.ends in
    subst (Stands ts start offset batches rest) (same_ok (headed rest) found.0 head found.1 e) found.2

-- a batch that isn't below the timestamp is the first
pub dated_at : (ts : ℤ) (start offset : ℕ) (batches : List (List ℕ)) (rest : List ℕ) (head : Head) (base : ℕ) → Stands ts start offset batches rest head
    → ts ≤ℤ head.max_ts → base ≡ cast_unsigned w64 head.base_offset → IsDated ts start offset batches (At (max base start))
dated_at ts start offset batches rest head base s late base_is =
    let late' : ts ≤ℤ max_ts_of s.batch = subst (λ (z : ℤ). ts ≤ℤ z) s.is_observable.max_ts late in
    let test : int_lt (max_ts_of s.batch) ts ≡ false = not_below (max_ts_of s.batch) ts late' in
    let is : base ≡ base_of s.batch = base_is ∙ s.is_observable.base in
    let first : first_at ts start (s.batch ∷ s.more) ≡ Some (max base start) = rw (test, is) refl in
    sym s.same ∙ first
  where
    not_below : (a t : ℤ) → t ≤ℤ a → int_lt a t ≡ false
    not_below a t h = grind (arith, ints)

-- what is after a batch
behind : (size : ℕ) (batch rest : List ℕ) → size ≡ length batch → drop (min size (length (batch ++ rest))) (batch ++ rest) ≡ rest
behind size batch rest is =
    let long = length-append batch rest in
    let place : min size (length (batch ++ rest)) ≡ length batch = omega (arith, is, long) in
    ap (λ n. drop n (batch ++ rest)) place ∙ go batch
  where
    go : (front : List ℕ) → drop (length front) (front ++ rest) ≡ rest
    go [] = refl
    go (b ∷ front) = go front

-- the end of batches is that of the last of them, which has 64 bits
ends_by : (last end : ℕ) (more : List (List ℕ)) → end_from (last + 1) more < 2 ^ 64 → end ≡ capped (last + 1) → end_from end more ≡ end_from (last + 1) more
ends_by last end [] fits is = omega (arith, fits, is)
ends_by last end (batch ∷ more) fits is = refl

-- a batch that is below it is passed
pub goes_by : (ts : ℤ) (start offset : ℕ) (batches : List (List ℕ)) (rest next : List ℕ) (head : Head) (end size : ℕ) → Stands ts start offset batches rest head → end_from offset batches < 2 ^ 64
    → head.max_ts <ℤ ts → size ≡ size_in head → end ≡ capped (cast_unsigned w64 head.base_offset + cast_unsigned w32 head.last_offset_delta + 1)
    → next ≡ drop (min size (length rest)) rest → IsLeft ts start offset batches next end
goes_by ts start offset batches rest next head end size s fits early size_is end_is next_is =
    let early' : max_ts_of s.batch <ℤ ts = subst (λ (z : ℤ). z <ℤ ts) s.is_observable.max_ts early in
    let test : int_lt (max_ts_of s.batch) ts ≡ true = below (max_ts_of s.batch) ts early' in
    let sum : cast_unsigned w64 head.base_offset + cast_unsigned w32 head.last_offset_delta ≡ last_of s.batch =
    ap (λ n. n + cast_unsigned w32 head.last_offset_delta) s.is_observable.base ∙ ap (λ n. base_of s.batch + n) s.is_observable.delta in
    let last : end ≡ capped (last_of s.batch + 1) = end_is ∙ ap (λ n. capped (n + 1)) sum in
    let passed : first_at ts start (s.batch ∷ s.more) ≡ first_at ts start s.more = rw test refl in
    record {
      left = s.more;
      clean = subst AreBytes (sym next_is) (bytes_drop (min size (length rest)) rest s.clean);
      checked = s.checked;
      bytes_are = next_is ∙ (ap (λ (bytes : List ℕ). drop (min size (length bytes)) bytes) s.parts ∙ behind size s.batch (joined s.more) (size_is ∙ s.is_observable.size));
      same = sym passed ∙ s.same;
      ends = ends_by (last_of s.batch) end s.more (subst (λ n. n < 2 ^ 64) (sym s.ends) fits) last ∙ s.ends;
    }
  where
    below : (a t : ℤ) → a <ℤ t → int_lt a t ≡ true
    below a t h = grind (arith, ints)

-- where no bytes are left, no batch is
pub dated_behind : (ts : ℤ) (start offset : ℕ) (batches : List (List ℕ)) (rest : List ℕ) (end : ℕ) → IsLeft ts start offset batches rest end → length rest ≡ 0
    → IsDated ts start offset batches (Behind end)
dated_behind ts start offset batches rest end l none = go l.left l.checked (sym (ap length l.bytes_are) ∙ none) l.same l.ends
  where
    go : (left : List (List ℕ)) → AreAllChecked left → length (joined left) ≡ 0 → first_at ts start left ≡ first_at ts start batches → end_from end left ≡ end_from offset batches
        → IsDated ts start offset batches (Behind end)
    go [] ok none same ends = (sym same, ends)
    go (batch ∷ more) ok none same ends =
        let long = checked_long batch ok.0 in
        let size = length-append batch (joined more) in
        absurd (omega (arith, long, size, none))
