-- Both indexes on their way, over the batches that are in a segment's bytes.
use Rattle.std.proofs.Common.{◌≡◌, ◌∙◌, ap, sym, refl, subst, ℕ, zero, suc, ◌+◌, ◌-◌, ◌^◌, ◌<◌, ◌≤◌, Bool, true, false, ℤ, List, [], ◌∷◌, ◌++◌, length, drop, slice_index, Some, Result, Ok, Err, IsOk, arith, append_assoc, append-nil, length-append}
use Rattle.std.specs.Prelude.{int_lt, pos, ◌≤ℤ◌}
use Rattle.std.specs.Int.{Width, w16, w32, w64, byte_len}
use Rattle.std.specs.Option.{ForSome}
use Rattle.std.specs.List.{AllByRecursion}
use Rattle.std.proofs.lemmas.List.{take-append-le}
use Rattle.std.proofs.lemmas.Option.{same_Some}
use Rattle.log_terms.specs.Batch.{field_at, last_of}
use Rattle.log_terms.specs.Log.{joined, IsConsecutive, end_from}
use Rattle.record_batch.specs.declared.head.Head.{Head}
use Rattle.record_batch.specs.declared.refusal.HeadRefusal.{HeadRefusal}
use Rattle.record_batch.specs.declared.refusal.BatchRefusal.{BatchRefusal}
use Rattle.record_batch.specs.Check.{Batch, checked, headed}
use Rattle.record_batch.specs.Head.{head_of}
use Rattle.record_batch.proofs.Passing.{checked_long}
use Rattle.sparse_index.specs.Entries as sparse
use Rattle.sparse_index.specs.Offsets.{OffsetTable}
use Rattle.sparse_index.specs.Times.{TimeTable, AreMoments}
use Rattle.segment_file.specs.declared.marking.Marking.{Marking}
use Rattle.segment_file.specs.declared.placed.Placed.{Placed}
use Rattle.segment_file.specs.Segment.{IsSegment}
use Rattle.segment_file.specs.Closed.{AreIndexes}
use Rattle.segment_file.specs.Growing.{AreBatchesLaid, end_after}
use Rattle.segment_file.specs.Index.{Marks, placed, placed_from, is_due, with_time, time_of, raised, unmarked, marked, marked_by, closing}
use Rattle.segment_file.specs.Gathering.{HeadDescribes}
use Rattle.segment_file.specs.Marking.{HasSegment, marks_in, IsFrom, MayMark, IsMarked}
use Rattle.segment_file.proofs.Finding.{drop_append, length_drop, headed_front}
use Rattle.segment_file.proofs.Standing.{AreBytes, bytes_drop, front_bytes}
use Rattle.segment_file.proofs.Telling.{is_observable}
use Rattle.segment_file.proofs.Placing.{placed_append, placed_size, placed_end}
use Rattle.segment_file.proofs.Runs.{joined_append}
use Rattle.segment_file.proofs.Laying.{last_push, last_below, none_below, marked_append, marked_size, end_up}
use Rattle.segment_file.proofs.Joining.{all_parts, end_append, consecutive_parts, consecutive_up, joined_same, segment_front}

-- the last time entry of an index isn't negative
pub last_moment : (moments : List (ℤ × ℕ)) (moment : ℤ × ℕ) → AreMoments moments → sparse.last_of moments ≡ Some moment → pos 0 ≤ℤ moment.0
last_moment [] moment are e = absurd (cc)
last_moment (one ∷ []) moment are e = subst (λ (m : ℤ × ℕ). pos 0 ≤ℤ m.0) (same_Some one moment e) are.0.1
last_moment (one ∷ two ∷ moments) moment are e = last_moment (two ∷ moments) moment are.2 e

-- a field of the head is the batch's own
field_kept : (w : Width) (at : ℕ) (batch rest : List ℕ) → at + byte_len w ≤ length batch → field_at w at (batch ++ rest) ≡ field_at w at batch
unfolding field_at
field_kept w at batch rest h =
    let behind : length (drop at batch) ≡ length batch - at = length_drop at batch (omega (arith, h)) in
    rw (drop_append at batch rest (omega (arith, h)), take-append-le (byte_len w) (drop at batch) rest (omega (arith, h, behind))) refl

index_kept : (n : ℕ) (xs ys : List ℕ) → n < length xs → slice_index (xs ++ ys) n ≡ slice_index xs n
index_kept n [] ys h = absurd (omega (arith, h))
index_kept zero (x ∷ xs) ys h = refl
index_kept (suc n) (x ∷ xs) ys h = index_kept n xs ys (omega (arith, h))

-- so is the head
pub head_front : (batch rest : List ℕ) → 61 ≤ length batch → head_of (batch ++ rest) ≡ head_of batch
unfolding head_of
head_front batch rest long =
    rw (
      field_kept w64 0 batch rest (omega (arith, long)),
      field_kept w32 8 batch rest (omega (arith, long)),
      field_kept w32 12 batch rest (omega (arith, long)),
      index_kept 16 batch rest (omega (arith, long)),
      field_kept w32 17 batch rest (omega (arith, long)),
      field_kept w16 21 batch rest (omega (arith, long)),
      field_kept w32 23 batch rest (omega (arith, long)),
      field_kept w64 27 batch rest (omega (arith, long)),
      field_kept w64 35 batch rest (omega (arith, long)),
      field_kept w64 43 batch rest (omega (arith, long)),
      field_kept w16 51 batch rest (omega (arith, long)),
      field_kept w32 53 batch rest (omega (arith, long)),
      field_kept w32 57 batch rest (omega (arith, long)),
    ) refl

-- the head is read where a batch exists
pub head_read : (batch rest : List ℕ) → IsOk (checked batch) → headed (batch ++ rest) ≡ Ok (head_of batch)
head_read batch rest ok = go (checked batch) refl ok
  where
    go : (r : Result Batch BatchRefusal) → checked batch ≡ r → IsOk r → headed (batch ++ rest) ≡ Ok (head_of batch)
    go (Ok b) e ok = headed_front batch rest b e ∙ ap Ok (head_front batch rest (checked_long batch (rw e refl)))
    go (Err why) e ok = absurd (cc)

-- placed batches are laid one after another
pub placed_laid : (base at : ℕ) (xs : List (List ℕ)) → AllByRecursion (λ (b : List ℕ). IsOk (checked b)) xs → IsConsecutive base xs → AreBatchesLaid base at (placed_from at xs)
placed_laid base at [] all row = tt
placed_laid base at (x ∷ xs) all row =
    let long = checked_long x all.0 in
    (omega (arith, row.0), omega (arith, long), placed_laid (last_of x + 1) (at + length x) xs all.1 row.1)

-- the greatest timestamp's batch, where the next one begins at first
pub record Tops (base first : ℕ) (marks : Marks) : Type 0 where
  pub from : base ≤ first
  pub from_base : base ≤ marks.top.1
  pub before : marks.top.1 ≤ first
  pub near : marks.top.1 < base + 2 ^ 31
  pub above : ForSome (sparse.last_of marks.moments) (λ moment. base + moment.1 ≤ marks.top.1)

-- the offset of the greatest timestamp doesn't fall
record Raised (base first : ℕ) (top : ℤ × ℕ) (one : Placed) (more : ℤ × ℕ) : Type 0 where
  from_base : base ≤ more.1
  up : top.1 ≤ more.1
  before : more.1 ≤ one.last + 1
  near : more.1 < base + 2 ^ 31

raised_up : (base first : ℕ) (top : ℤ × ℕ) (one : Placed) → base ≤ top.1 → top.1 ≤ first → top.1 < base + 2 ^ 31 → first ≤ one.last → one.last < base + 2 ^ 31 → Raised base first top one (raised top one)
raised_up base first top one from before near next fits = go (int_lt top.0 one.max_ts) refl
  where
    go : (t : Bool) → int_lt top.0 one.max_ts ≡ t → Raised base first top one (raised top one)
    go true t = rw t (record { from_base = omega (arith, from, before, next); up = omega (arith, before, next); before = omega arith; near = fits })
    go false t = rw t (record { from_base = from; up = omega arith; before = omega (arith, before, next); near = near })

timed : (base : ℕ) (moments : List (ℤ × ℕ)) (top : ℤ × ℕ) (old : ℕ) → base ≤ top.1 → old ≤ top.1 → ForSome (sparse.last_of moments) (λ moment. base + moment.1 ≤ old)
    → ForSome (sparse.last_of (with_time base moments top)) (λ moment. base + moment.1 ≤ top.1)
timed base moments top old from up above = go (int_lt (time_of (sparse.last_of moments)) top.0) refl
  where
    go : (t : Bool) → int_lt (time_of (sparse.last_of moments)) top.0 ≡ t → ForSome (sparse.last_of (with_time base moments top)) (λ moment. base + moment.1 ≤ top.1)
    go true t = λ moment e.
        let same : (top.0, top.1 - base) ≡ moment = same_Some (top.0, top.1 - base) moment (sym (last_push moments (top.0, top.1 - base)) ∙ rw t at e) in
        let offset = ap (λ (m : ℤ × ℕ). m.1) (sym same) in omega (arith, offset, from)
    go false t = λ moment e. (let a = above moment (rw t at e) in omega (arith, a, up))

tops_step : (base interval first : ℕ) (marks : Marks) (one : Placed) → Tops base first marks → first ≤ one.last → one.last < base + 2 ^ 31 → Tops base (one.last + 1) (marked base interval marks one)
tops_step base interval first marks one tops next fits =
    let r = raised_up base first marks.top one tops.from_base tops.before tops.near next fits in
    let f = tops.from in record {
      from = omega (arith, f, next);
      from_base = r.from_base;
      before = r.before;
      near = r.near;
      above = go r (is_due interval marks.entries marks.size) refl;
    }
  where
    go : Raised base first marks.top one (raised marks.top one) → (t : Bool) → is_due interval marks.entries marks.size ≡ t
        → ForSome (sparse.last_of (marked base interval marks one).moments) (λ moment. base + moment.1 ≤ (raised marks.top one).1)
    go r true t = rw t (timed base marks.moments (raised marks.top one) marks.top.1 r.from_base r.up tops.above)
    go r false t = rw t (λ moment e. (let a = tops.above moment e in let u = r.up in omega (arith, a, u)))

pub tops_by : (base interval first at : ℕ) (marks : Marks) (batches : List Placed) → Tops base first marks → AreBatchesLaid first at batches → end_after first batches ≤ base + 2 ^ 31
    → Tops base (end_after first batches) (marked_by base interval marks batches)
tops_by base interval first at marks [] tops laid near = tops
tops_by base interval first at marks (one ∷ batches) tops laid near =
    let up = end_up (one.last + 1) one.to batches laid.2 in
    tops_by base interval (one.last + 1) one.to (marked base interval marks one) batches (tops_step base interval first marks one tops laid.0 (omega (arith, up, near))) laid.2 near

pub tops_first : (base : ℕ) → Tops base base (unmarked base)
tops_first base = record { from = omega arith; from_base = omega arith; before = omega arith; near = omega arith; above = λ moment e. absurd (cc) }

-- the front's indexes
pub tops_front : (base interval : ℕ) (front : List (List ℕ)) → IsSegment base front → Tops base (end_from base front) (marked_by base interval (unmarked base) (placed_from 0 front))
tops_front base interval front s =
    let end = placed_end base 0 front in
    let near = s.near in
    subst (λ n. Tops base n (marked_by base interval (unmarked base) (placed_from 0 front))) end
    (tops_by base interval base 0 (unmarked base) (placed_from 0 front) (tops_first base) (placed_laid base 0 front s.checked s.consecutive) (omega (arith, end, near)))

-- the next batch may be marked
pub may_mark : (base interval : ℕ) (front rest : List (List ℕ)) (batch : List ℕ) → IsSegment base (front ++ batch ∷ rest)
    → MayMark base (marked_by base interval (unmarked base) (placed_from 0 front)) (placed (length (joined front)) batch)
may_mark base interval front rest batch s =
    let row = consecutive_parts base front (batch ∷ rest) s.consecutive in
    let all = all_parts (λ (b : List ℕ). IsOk (checked b)) front (batch ∷ rest) s.checked in
    let is = segment_front base front (batch ∷ rest) s in
    let tops = tops_front base interval front is in
    let up = consecutive_up (last_of batch + 1) rest row.1.1 in
    let end : end_from base (front ++ batch ∷ rest) ≡ end_from (last_of batch + 1) rest = end_append base front (batch ∷ rest) in
    let next : end_from base front ≤ last_of batch = (let b = row.1.0 in omega (arith, b)) in
    let near = s.near in
    let size : (marked_by base interval (unmarked base) (placed_from 0 front)).size ≡ length (joined front) = marked_size base interval (unmarked base) (placed_from 0 front) ∙ (placed_size 0 front ∙ (let none : 0 + length (joined front) ≡ length (joined front) = omega arith in none)) in
    let small = is.small in
    let below = last_below base interval base (unmarked base) (placed_from 0 front) (omega arith) (placed_laid base 0 front is.checked is.consecutive) (none_below base) in
    let ends = placed_end base 0 front in
    let sizes = placed_size 0 front in
    let from = tops.from in
    let before = tops.before in record {
      from_base = omega (arith, from, next);
      near = omega (arith, end, up, near);
      small = omega (arith, size, small);
      offsets = λ entry e. (let b = below entry e in (omega (arith, b.0, ends, next), omega (arith, b.1, sizes, size)));
      top = record { from_base = tops.from_base; near = tops.near; above = tops.above };
      later = omega (arith, before, next);
    }

-- the batch that is next
pub record NextIn (base : ℕ) (bytes : List ℕ) (interval at : ℕ) (marking : Marking) : Type 0 where
  pub front : List (List ℕ)
  pub batch : List ℕ
  pub rest : List (List ℕ)
  pub parts : bytes ≡ joined front ++ joined (batch ∷ rest)
  pub there : drop at bytes ≡ batch ++ joined rest
  pub place : at ≡ length (joined front)
  pub is : IsSegment base (front ++ batch ∷ rest)
  pub ok : IsOk (checked batch)
  pub marks : marks_in at marking ≡ marked_by base interval (unmarked base) (placed_from 0 front)
  pub from : IsFrom base marking

drop_front : (xs ys : List ℕ) → drop (length xs) (xs ++ ys) ≡ ys
drop_front [] ys = refl
drop_front (x ∷ xs) ys = drop_front xs ys

pub next_in : (base : ℕ) (bytes : List ℕ) (interval at : ℕ) (marking : Marking) → IsMarked base bytes interval at marking → at < length bytes → NextIn base bytes interval at marking
next_in base bytes interval at marking m within = go m.rest m.parts m.is
  where
    go : (rest : List (List ℕ)) → bytes ≡ joined m.front ++ joined rest → IsSegment base (m.front ++ rest) → NextIn base bytes interval at marking
    go [] parts is =
        let size = ap length parts ∙ length-append (joined m.front) [] in
        let place = m.place in absurd (omega (arith, size, place, within))
    go (batch ∷ rest) parts is = record {
      front = m.front;
      batch = batch;
      rest = rest;
      parts = parts;
      there = ap (λ n. drop n bytes) m.place ∙ (ap (drop (length (joined m.front))) parts ∙ drop_front (joined m.front) (batch ++ joined rest));
      place = m.place;
      is = is;
      ok = (all_parts (λ (b : List ℕ). IsOk (checked b)) m.front (batch ∷ rest) is.checked).1.0;
      marks = m.marks;
      from = m.from;
    }

pub read_there : (base : ℕ) (bytes : List ℕ) (interval at : ℕ) (marking : Marking) → (n : NextIn base bytes interval at marking) → headed (drop at bytes) ≡ Ok (head_of n.batch)
read_there base bytes interval at marking n = ap headed n.there ∙ head_read n.batch (joined n.rest) n.ok

pub tells_there : (base : ℕ) (bytes : List ℕ) (interval at : ℕ) (marking : Marking) (head : Head) → AreBytes bytes → (n : NextIn base bytes interval at marking) → headed (drop at bytes) ≡ Ok head → HeadDescribes n.batch head
tells_there base bytes interval at marking head clean n e =
    let same : head_of n.batch ≡ head = ok_same (headed (drop at bytes)) (head_of n.batch) head (read_there base bytes interval at marking n) e in
    let clean' : AreBytes n.batch = front_bytes n.batch (joined n.rest) (subst AreBytes n.there (bytes_drop at bytes clean)) in
    subst (HeadDescribes n.batch) same (is_observable n.batch clean' n.ok)
  where
    ok_same : (r : Result Head HeadRefusal) (h h' : Head) → r ≡ Ok h → r ≡ Ok h' → h ≡ h'
    ok_same r h h' e e' = cc

-- one batch more
pub marked_more : (base : ℕ) (bytes : List ℕ) (interval at to : ℕ) (marking more : Marking) (one : Placed) → (n : NextIn base bytes interval at marking) → one ≡ placed at n.batch → to ≡ one.to
    → marks_in one.to more ≡ marked base interval (marks_in at marking) one → IsFrom base more → IsMarked base bytes interval to more
marked_more base bytes interval at to marking more one n is to-is marks from =
    let size : length (joined (n.front ++ n.batch ∷ [])) ≡ length (joined n.front) + length n.batch =
    ap length (joined_append n.front (n.batch ∷ []) ∙ ap (λ (z : List ℕ). joined n.front ++ z) (append-nil n.batch)) ∙ length-append (joined n.front) n.batch in
    let place = n.place in
    let ends : to ≡ at + length n.batch = to-is ∙ ap (λ (p : Placed). p.to) is in
    let batch-is : one ≡ placed (length (joined n.front)) n.batch = is ∙ ap (λ k. placed k n.batch) place in record {
      front = n.front ++ n.batch ∷ [];
      rest = n.rest;
      parts = n.parts ∙ (sym (append_assoc (joined n.front) n.batch (joined n.rest)) ∙ ap (λ (z : List ℕ). z ++ joined n.rest) (sym (joined_append n.front (n.batch ∷ []) ∙ ap (λ (z : List ℕ). joined n.front ++ z) (append-nil n.batch))));
      place = omega (arith, size, place, ends);
      is = subst (IsSegment base) (sym (append_assoc n.front (n.batch ∷ []) n.rest)) n.is;
      marks = ap (λ k. marks_in k more) to-is ∙ (marks ∙ (ap (λ s. marked base interval s one) n.marks ∙ (ap (marked base interval (marked_by base interval (unmarked base) (placed_from 0 n.front))) batch-is
          ∙ sym (ap (marked_by base interval (unmarked base)) (placed_append 0 n.front (n.batch ∷ [])) ∙ (marked_append base interval (unmarked base) (placed_from 0 n.front) (placed (0 + length (joined n.front)) n.batch ∷ [])
          ∙ ap (λ k. marked base interval (marked_by base interval (unmarked base) (placed_from 0 n.front)) (placed k n.batch)) (let none : 0 + length (joined n.front) ≡ length (joined n.front) = omega arith in none))))));
      from = from;
    }

pub marked_first : (base : ℕ) (bytes : List ℕ) (interval : ℕ) (marking : Marking) → (s : HasSegment base bytes) → marks_in 0 marking ≡ unmarked base → IsFrom base marking → IsMarked base bytes interval 0 marking
marked_first base bytes interval marking s marks from = record {
  front = [];
  rest = s.batches;
  parts = s.bytes_are;
  place = refl;
  is = s.is;
  marks = marks;
  from = from;
}

-- all batches
pub record AllMarked (base : ℕ) (bytes : List ℕ) (interval at : ℕ) (marking : Marking) : Type 0 where
  pub batches : List (List ℕ)
  pub bytes_are : bytes ≡ joined batches
  pub is : IsSegment base batches
  pub marks : marks_in at marking ≡ marked_by base interval (unmarked base) (placed_from 0 batches)
  pub from : IsFrom base marking

pub all_marked : (base : ℕ) (bytes : List ℕ) (interval at : ℕ) (marking : Marking) → IsMarked base bytes interval at marking → length bytes ≤ at → AllMarked base bytes interval at marking
all_marked base bytes interval at marking m all = go m.rest m.parts m.is
  where
    go : (rest : List (List ℕ)) → bytes ≡ joined m.front ++ joined rest → IsSegment base (m.front ++ rest) → AllMarked base bytes interval at marking
    go [] parts is = record {
      batches = m.front;
      bytes_are = parts ∙ append-nil (joined m.front);
      is = subst (IsSegment base) (append-nil m.front) is;
      marks = m.marks;
      from = m.from;
    }
    go (batch ∷ rest) parts is =
        let ok = (all_parts (λ (b : List ℕ). IsOk (checked b)) m.front (batch ∷ rest) is.checked).1.0 in
        let long = checked_long batch ok in
        let size = ap length parts ∙ length-append (joined m.front) (batch ++ joined rest) in
        let more = length-append batch (joined rest) in
        let place = m.place in absurd (omega (arith, long, size, more, place, all))

-- what closing comes to
pub indexes_are : (base : ℕ) (bytes : List ℕ) (interval at : ℕ) (marking : Marking) (times : TimeTable) → AllMarked base bytes interval at marking
    → times ≡ record { base = base; entries = with_time base marking.times.entries marking.top } → AreIndexes base bytes interval marking.offsets times
indexes_are base bytes interval at marking times m times-is batches s bytes-are =
    let same : m.batches ≡ batches = joined_same m.batches batches m.is.checked s.checked (sym m.bytes_are ∙ bytes-are) in
    let marks : marks_in at marking ≡ marked_by base interval (unmarked base) (placed_from 0 batches) = m.marks ∙ ap (λ bs. marked_by base interval (unmarked base) (placed_from 0 bs)) same in (
      ap (λ n. table_in n marking.offsets.entries) m.from.offsets ∙ ap (λ (s : Marks). table_in base s.entries) marks,
      times-is ∙ ap (closing base) marks,
    )
  where
    table_in : ℕ → List (ℕ × ℕ) → OffsetTable
    table_in base entries = record { base = base; entries = entries }

-- the next batch ends below the limits
pub fits_there : (base : ℕ) (bytes : List ℕ) (interval at : ℕ) (marking : Marking) → (n : NextIn base bytes interval at marking) → (last_of n.batch < 2 ^ 62) × (at + length n.batch < 2 ^ 31)
fits_there base bytes interval at marking n =
    let row = consecutive_parts base n.front (n.batch ∷ n.rest) n.is.consecutive in
    let up = consecutive_up (last_of n.batch + 1) n.rest row.1.1 in
    let end : end_from base (n.front ++ n.batch ∷ n.rest) ≡ end_from (last_of n.batch + 1) n.rest = end_append base n.front (n.batch ∷ n.rest) in
    let low = n.is.low in
    let whole = ap length (joined_append n.front (n.batch ∷ n.rest)) ∙ length-append (joined n.front) (n.batch ++ joined n.rest) in
    let more = length-append n.batch (joined n.rest) in
    let small = n.is.small in
    let place = n.place in
    (omega (arith, up, end, low), omega (arith, whole, more, small, place))

pub may_there : (base : ℕ) (bytes : List ℕ) (interval at : ℕ) (marking : Marking) (one : Placed) → (n : NextIn base bytes interval at marking) → one ≡ placed at n.batch → MayMark base (marks_in at marking) one
may_there base bytes interval at marking one n is =
    let may = may_mark base interval n.front n.rest n.batch n.is in
    let batch-is : one ≡ placed (length (joined n.front)) n.batch = is ∙ ap (λ k. placed k n.batch) n.place in
    subst (λ s. MayMark base s one) (sym n.marks) (subst (MayMark base (marked_by base interval (unmarked base) (placed_from 0 n.front))) (sym batch-is) may)

pub tops_all : (base : ℕ) (bytes : List ℕ) (interval at : ℕ) (marking : Marking) → (m : AllMarked base bytes interval at marking) → Tops base (end_from base m.batches) (marks_in at marking)
tops_all base bytes interval at marking m = subst (Tops base (end_from base m.batches)) (sym m.marks) (tops_front base interval m.batches m.is)
