-- What the batches so far come to, with one more.
use Rattle.std.proofs.Common.{◌≡◌, ◌∙◌, ap, sym, refl, subst, ℕ, zero, suc, ◌+◌, ◌-◌, ◌^◌, ◌==◌, ◌<◌, ◌≤◌, ◌≢◌, Bool, true, false, cond, ℤ, List, [], ◌∷◌, ◌++◌, length, drop, Some, IsOk, arith, append_assoc, append-nil, length-append}
use Rattle.std.specs.Int.{w32, cast_unsigned, int_max}
use Rattle.std.specs.Option.{ForSome, option_map}
use Rattle.std.specs.List.{AllByRecursion}
use Rattle.std.proofs.lemmas.Bool.{eqb-true}
use Rattle.std.proofs.lemmas.Option.{same_Some}
use Rattle.log_terms.specs.Batch.{base_of, epoch_of, last_of, max_ts_of}
use Rattle.log_terms.specs.Line.{line_of, line_after}
use Rattle.log_terms.specs.Log.{joined, IsConsecutive, end_from}
use Rattle.epoch_line.specs.Line.{last_entry, last_epoch}
use Rattle.record_batch.specs.declared.head.Head.{Head}
use Rattle.record_batch.specs.Check.{checked}
use Rattle.record_batch.specs.Head.{head_of}
use Rattle.record_batch.proofs.Passing.{checked_long}
use Rattle.segment_file.specs.declared.gathering.Gathered.{Gathered}
use Rattle.segment_file.specs.Walk.{size_in}
use Rattle.segment_file.specs.Segment.{IsSegment, greatest_from, greatest_ts}
use Rattle.segment_file.specs.Closed.{IsBadPlace, ClosedSegment, IsWholeSegment}
use Rattle.segment_file.specs.Gathering.{epoch_after, MayComeNext, IsGathered, HeadDescribes, GoesOnAt, NothingAt, later_ts, with_epoch, gained}
use Rattle.segment_file.proofs.Finding.{not_empty}
use Rattle.segment_file.proofs.Runs.{joined_push}
use Rattle.segment_file.proofs.Standing.{AreBytes, bytes_drop, front_bytes}
use Rattle.segment_file.proofs.Telling.{is_observable}
use Rattle.segment_file.proofs.Joining.{GoesOn, end_push, epoch_push, consecutive_up, segment_push, segment_last, segment_front, nothing_joined, parts_same}

-- the greatest timestamp with a batch more
greatest_from_push : (ts : ℤ) (xs : List (List ℕ)) (batch : List ℕ) → greatest_from ts (xs ++ batch ∷ []) ≡ int_max (greatest_from ts xs) (max_ts_of batch)
greatest_from_push ts [] batch = refl
greatest_from_push ts (x ∷ xs) batch = greatest_from_push (int_max ts (max_ts_of x)) xs batch

greatest_push : (at : ℕ) (xs : List (List ℕ)) (batch : List ℕ) → AllByRecursion (λ (b : List ℕ). IsOk (checked b)) xs → at ≡ length (joined xs)
    → greatest_ts (xs ++ batch ∷ []) ≡ later_ts at (greatest_ts xs) (max_ts_of batch)
greatest_push at [] batch all e = rw e refl
greatest_push at (x ∷ xs) batch all e =
    let long = checked_long x all.0 in
    let size = length-append x (joined xs) in
    rw (not_empty at (omega (arith, e, long, size))) (greatest_from_push (max_ts_of x) xs batch)

-- the line with a batch more
abbrev snapshot : ℕ → ℕ → ℕ → List (ℕ × ℕ)
snapshot epoch last base = cond (epoch == last) [] ((epoch, base) ∷ [])

line_after_push : (epoch : ℕ) (xs : List (List ℕ)) (batch : List ℕ) → line_after epoch (xs ++ batch ∷ []) ≡ line_after epoch xs ++ snapshot (epoch_of batch) (epoch_after epoch xs) (base_of batch)
line_after_push epoch [] batch = go (epoch_of batch == epoch) refl
  where
    go : (t : Bool) → (epoch_of batch == epoch) ≡ t → line_after epoch (batch ∷ []) ≡ snapshot (epoch_of batch) epoch (base_of batch)
    go true e = rw e refl
    go false e = rw e refl
line_after_push epoch (x ∷ xs) batch = go (epoch_of x == epoch) refl (line_after_push epoch xs batch) (line_after_push (epoch_of x) xs batch)
  where
    tail : ℕ → List (ℕ × ℕ)
    tail last = snapshot (epoch_of batch) (epoch_after last xs) (base_of batch)

    go : (t : Bool) → (epoch_of x == epoch) ≡ t → line_after epoch (xs ++ batch ∷ []) ≡ line_after epoch xs ++ tail epoch → line_after (epoch_of x) (xs ++ batch ∷ []) ≡ line_after (epoch_of x) xs ++ tail (epoch_of x)
        → line_after epoch (x ∷ xs ++ batch ∷ []) ≡ line_after epoch (x ∷ xs) ++ tail (epoch_of x)
    go true e same other = let is : epoch_of x ≡ epoch = eqb-true (epoch_of x) epoch e in rw e (same ∙ ap (λ n. line_after epoch xs ++ tail n) (sym is))
    go false e same other = rw e (ap (λ es. (epoch_of x, base_of x) ∷ es) other)

-- the last entry: its epoch is the last batch's, and it starts before the end
last_after : (epoch start n : ℕ) (xs : List (List ℕ)) → start < n → IsConsecutive n xs
    → (s : ℕ) × (last_entry ((epoch, start) ∷ line_after epoch xs) ≡ Some (epoch_after epoch xs, s)) × (s < end_from n xs)
last_after epoch start n [] low row = (start, refl, low)
last_after epoch start n (x ∷ xs) low row =
    go (epoch_of x == epoch) refl (last_after epoch start (last_of x + 1) xs (omega (arith, low, row.0)) row.1) (last_after (epoch_of x) (base_of x) (last_of x + 1) xs (omega arith) row.1)
  where
    Last : ℕ → ℕ → List (List ℕ) → Type 0
    Last e at xs = (s : ℕ) × (last_entry ((e, at) ∷ line_after e xs) ≡ Some (epoch_after e xs, s)) × (s < end_from (last_of x + 1) xs)

    go : (t : Bool) → (epoch_of x == epoch) ≡ t → Last epoch start xs → Last (epoch_of x) (base_of x) xs
        → (s : ℕ) × (last_entry ((epoch, start) ∷ line_after epoch (x ∷ xs)) ≡ Some (epoch_after epoch (x ∷ xs), s)) × (s < end_from n (x ∷ xs))
    go true e same other =
        let is : epoch_of x ≡ epoch = eqb-true (epoch_of x) epoch e in
        (same.0, rw e (same.1 ∙ ap (λ m. Some (epoch_after m xs, same.0)) (sym is)), same.2)
    go false e same other = (other.0, rw e other.1, other.2)

-- of a segment's line
pub last_begun : (base : ℕ) (xs : List (List ℕ)) → IsConsecutive base xs → ForSome (last_entry (line_of xs)) (λ entry. (entry.0 ≡ epoch_after 0 xs) × (entry.1 < end_from base xs))
last_begun base [] row = λ entry e. absurd (cc)
last_begun base (x ∷ xs) row =
    let last = last_after (epoch_of x) (base_of x) (last_of x + 1) xs (omega arith) row.1 in
    λ entry e.
    let same : (epoch_after (epoch_of x) xs, last.0) ≡ entry = same_Some (epoch_after (epoch_of x) xs, last.0) entry (sym last.1 ∙ e) in
    (ap (λ (p : ℕ × ℕ). p.0) (sym same), (let start = ap (λ (p : ℕ × ℕ). p.1) (sym same) in omega (arith, start, last.2)))

with_by : (line : List (ℕ × ℕ)) (last s epoch start : ℕ) → last_entry line ≡ Some (last, s) → with_epoch line epoch start ≡ line ++ snapshot epoch last start
with_by line last s epoch start e = go (epoch == last) refl
  where
    is : last_epoch line ≡ Some last
    is = ap (option_map (λ (p : ℕ × ℕ). p.0)) e

    go : (t : Bool) → (epoch == last) ≡ t → with_epoch line epoch start ≡ line ++ snapshot epoch last start
    go true t = rw (is, t) (sym (append-nil line))
    go false t = rw (is, t) refl

line_push : (base : ℕ) (xs : List (List ℕ)) (batch : List ℕ) → IsConsecutive base xs → line_of (xs ++ batch ∷ []) ≡ with_epoch (line_of xs) (epoch_of batch) (base_of batch)
line_push base [] batch row = refl
line_push base (x ∷ xs) batch row =
    let last = last_after (epoch_of x) (base_of x) (last_of x + 1) xs (omega arith) row.1 in
    ap (λ es. (epoch_of x, base_of x) ∷ es) (line_after_push (epoch_of x) xs batch)
    ∙ sym (with_by (line_of (x ∷ xs)) (epoch_after (epoch_of x) xs) last.0 (epoch_of batch) (base_of batch) last.1)

-- a batch that may continue by its head does
goes_on : (base : ℕ) (bytes : List ℕ) (front : Gathered) (batch : List ℕ) (head : Head) → (g : IsGathered base bytes front) → IsOk (checked batch) → HeadDescribes batch head → MayComeNext base front.at front.end front.epoch head
    → GoesOn base g.batches batch
goes_on base bytes front batch head g ok t m = record {
  is = ok;
  begins = sym t.base ∙ (m.begins ∙ g.end_is);
  near = (let e = t.base in let d = t.delta in let n = m.near in let b = m.begins in omega (arith, e, d, n, b));
  low = (let e = t.base in let d = t.delta in let n = m.low in let b = m.begins in omega (arith, e, d, n, b));
  epoch_rises = (let e = t.epoch in let r = m.epoch_rises in let i = g.epoch_is in omega (arith, e, r, i));
  epoch_fits = (let e = t.epoch in let f = m.epoch_fits in omega (arith, e, f));
  small = (let s = t.size in let f = m.small in let a = g.at_is in omega (arith, s, f, a));
}

-- and the other way round
may_go_on : (base : ℕ) (bytes : List ℕ) (front : Gathered) (batch : List ℕ) (head : Head) → (g : IsGathered base bytes front) → HeadDescribes batch head → GoesOn base g.batches batch
    → MayComeNext base front.at front.end front.epoch head
may_go_on base bytes front batch head g t o = record {
  begins = t.base ∙ (o.begins ∙ sym g.end_is);
  near = (let e = o.begins in let d = t.delta in let n = o.near in let i = g.end_is in omega (arith, e, d, n, i));
  low = (let e = o.begins in let d = t.delta in let n = o.low in let i = g.end_is in omega (arith, e, d, n, i));
  epoch_rises = (let e = t.epoch in let r = o.epoch_rises in let i = g.epoch_is in omega (arith, e, r, i));
  epoch_fits = (let e = t.epoch in let f = o.epoch_fits in omega (arith, e, f));
  small = (let s = t.size in let f = o.small in let a = g.at_is in omega (arith, s, f, a));
}

-- the batches come to this with one more
pub gathered_more : (base : ℕ) (bytes : List ℕ) (front : Gathered) (head : Head) → IsGathered base bytes front → GoesOnAt base bytes front head → IsGathered base bytes (gained front head)
gathered_more base bytes front head g o =
    let batch = o.batch in
    let t : HeadDescribes batch head = o.is_observable in
    let on = goes_on base bytes front batch head g o.is t o.may in
    let more = joined_push g.batches batch in
    let size : length (joined (g.batches ++ batch ∷ [])) ≡ length (joined g.batches) + length batch = ap length more ∙ length-append (joined g.batches) batch in
    let at : front.at + size_in head ≡ length (joined (g.batches ++ batch ∷ [])) = (let a = g.at_is in let s = t.size in omega (arith, a, s, size)) in
    let end : front.end + cast_unsigned w32 head.last_offset_delta + 1 ≡ end_from base (g.batches ++ batch ∷ []) = (let e = o.may.begins in let b = t.base in let d = t.delta in let p = end_push base g.batches batch in omega (arith, e, b, d, p)) in record {
      batches = g.batches ++ batch ∷ [];
      parts = g.parts ∙ (ap (λ (z : List ℕ). joined g.batches ++ z) o.parts ∙ (sym (append_assoc (joined g.batches) batch (drop (front.at + size_in head) bytes)) ∙ ap (λ (z : List ℕ). z ++ drop (front.at + size_in head) bytes) (sym more)));
      is = segment_push base g.batches batch g.is on;
      inside = o.inside;
      at_is = at;
      end_is = end;
      epoch_is = t.epoch ∙ sym (epoch_push 0 g.batches batch);
      max_ts_is = ap (λ ts. later_ts front.at ts head.max_ts) g.max_ts_is ∙ (ap (later_ts front.at (greatest_ts g.batches)) t.max_ts ∙ sym (greatest_push front.at g.batches batch g.is.checked g.at_is));
      epochs_are = (let start : front.end ≡ base_of batch = sym o.may.begins ∙ t.base in
          rw (g.epochs_are, t.epoch, start) (sym (line_push base g.batches batch g.is.consecutive)));
    }

-- no batch continues, before the bytes' end
pub bad_place : (base : ℕ) (bytes : List ℕ) (front : Gathered) → AreBytes bytes → IsGathered base bytes front → NothingAt base bytes front → front.at < length bytes → IsBadPlace base bytes front.at
bad_place base bytes front clean g nothing within =
    let rest = drop front.at bytes in
    let none : (batch more : List ℕ) → rest ≡ batch ++ more → IsSegment base (g.batches ++ batch ∷ []) → ⊥ = λ batch more parts s.
    let on = segment_last base g.batches batch s in
    let clean' : AreBytes batch = front_bytes batch more (subst AreBytes parts (bytes_drop front.at bytes clean)) in
    nothing batch more parts on.is (may_go_on base bytes front batch (head_of batch) g (is_observable batch clean' on.is) on) in record {
      batches = g.batches;
      rest = rest;
      parts = g.parts;
      place = g.at_is;
      is = g.is;
      nothing = none;
      unread = λ others some s e. no_others others s (parts_same g.batches others rest g.is.checked s.checked (sym e ∙ g.parts)) none;
    }
  where
    no_others : (others : List (List ℕ)) → IsSegment base others → (more : List (List ℕ)) × (others ≡ g.batches ++ more) × (drop front.at bytes ≡ joined more)
        → ((batch more : List ℕ) → drop front.at bytes ≡ batch ++ more → IsSegment base (g.batches ++ batch ∷ []) → ⊥) → ⊥
    no_others others s ([], parts, rest) none =
        let size = ap length g.parts ∙ (length-append (joined g.batches) (drop front.at bytes) ∙ ap (λ (z : List ℕ). length (joined g.batches) + length z) rest) in
        let at = g.at_is in
        omega (arith, size, at, within)
    no_others others s (m ∷ more, parts, rest) none =
        none m (joined more) rest (segment_front base (g.batches ++ m ∷ []) more (subst (IsSegment base) (parts ∙ sym (append_assoc g.batches (m ∷ []) more)) s))

-- there is no byte
pub no_bytes : (base : ℕ) (bytes : List ℕ) → base ≤ 2 ^ 62 → length bytes ≡ 0 → IsBadPlace base bytes 0
no_bytes base [] fits e = record {
  batches = [];
  rest = [];
  parts = refl;
  place = refl;
  is = nothing_joined base fits;
  nothing = λ batch more parts s.
      let on = segment_last base [] batch s in
      let long = checked_long batch on.is in
      let size = ap length parts ∙ length-append batch more in
      omega (arith, long, size);
  unread = λ others some s e. unread others some s e;
}
  where
    unread : (others : List (List ℕ)) → others ≢ [] → IsSegment base others → [] ≡ joined others → ⊥
    unread [] some s e = some refl
    unread (x ∷ others) some s e =
        let long = checked_long x s.checked.0 in
        let size = ap length e ∙ length-append x (joined others) in
        omega (arith, long, size)
no_bytes base (b ∷ bytes) fits e = absurd (omega (arith, e))

drop_all : (n : ℕ) (bytes : List ℕ) → n ≡ length bytes → drop n bytes ≡ []
drop_all zero [] e = refl
drop_all zero (b ∷ bytes) e = absurd (omega (arith, e))
drop_all (suc n) [] e = refl
drop_all (suc n) (b ∷ bytes) e = drop_all n bytes (omega (arith, e))

has_end : (base end at : ℕ) (batches : List (List ℕ)) → IsConsecutive base batches → end ≡ end_from base batches → at ≡ length (joined batches) → 0 < at → 0 < end
has_end base end at [] row e size some = absurd (omega (arith, size, some))
has_end base end at (x ∷ batches) row e size some = (let up = consecutive_up (last_of x + 1) batches row.1 in omega (arith, up, e))

-- batches end past the first offset
pub some_end : (base : ℕ) (bytes : List ℕ) (front : Gathered) → IsGathered base bytes front → 0 < front.at → 1 ≤ front.end
some_end base bytes front g some = has_end base front.end front.at g.batches g.is.consecutive g.end_is g.at_is some

-- the bytes are a closed segment
pub whole : (base : ℕ) (bytes : List ℕ) (front : Gathered) (segment : ClosedSegment) → IsGathered base bytes front → 0 < front.at → front.at ≡ length bytes
    → segment.base ≡ base → segment.last ≡ front.end - 1 → segment.max_ts ≡ front.max_ts → segment.bytes ≡ bytes → segment.epochs ≡ front.epochs → IsWholeSegment segment
whole base bytes front segment g some all base-is last-is ts-is bytes-are epochs-are =
    let none : drop front.at bytes ≡ [] = drop_all front.at bytes all in
    let end : 1 ≤ front.end = some_end base bytes front g some in record {
      batches = g.batches;
      some = λ e. (let size : front.at ≡ 0 = g.at_is ∙ ap (λ bs. length (joined bs)) e in omega (arith, size, some));
      bytes_are = bytes-are ∙ (g.parts ∙ (ap (λ (z : List ℕ). joined g.batches ++ z) none ∙ append-nil (joined g.batches)));
      is = subst (λ n. IsSegment n g.batches) (sym base-is) g.is;
      last_is = rw base-is (let e = g.end_is in omega (arith, last-is, end, e));
      max_ts_is = ts-is ∙ g.max_ts_is;
      epochs_are = epochs-are ∙ g.epochs_are;
    }

-- the last begun epoch is the last batch's
pub last_gathered : (base : ℕ) (bytes : List ℕ) (front : Gathered) → IsGathered base bytes front → ForSome (last_entry front.epochs) (λ entry. (entry.0 ≡ front.epoch) × (entry.1 < front.end))
last_gathered base bytes front g = rw (g.epochs_are, g.epoch_is, g.end_is) (last_begun base g.batches g.is.consecutive)

-- fields that are the same make the same
abbrev made : ℕ → ℕ → ℕ → ℤ → List (ℕ × ℕ) → Gathered
made at end epoch ts epochs = record { at = at; end = end; epoch = epoch; max_ts = ts; epochs = epochs }

pub gathered_same : (a b : Gathered) → a.at ≡ b.at → a.end ≡ b.end → a.epoch ≡ b.epoch → a.max_ts ≡ b.max_ts → a.epochs ≡ b.epochs → a ≡ b
gathered_same a b at end epoch ts epochs =
    ap (λ n. made n a.end a.epoch a.max_ts a.epochs) at
    ∙ (ap (λ n. made b.at n a.epoch a.max_ts a.epochs) end
    ∙ (ap (λ n. made b.at b.end n a.max_ts a.epochs) epoch
    ∙ (ap (λ z. made b.at b.end b.epoch z a.epochs) ts ∙ ap (made b.at b.end b.epoch b.max_ts) epochs)))
