-- The entries of a segment's time index: they rise.
use Rattle.std.proofs.Common.{◌≡◌, ◌∙◌, sym, ap, subst, refl, ℕ, suc, ◌+◌, ◌-◌, ◌^◌, ◌<◌, ◌≤◌, Bool, true, false, cond, List, [], ◌∷◌, ◌++◌, length, Option, Some, None, arith, append_assoc, append-nil}
use Rattle.std.specs.Prelude.{nat_lt, ℤ, pos, negsuc, int_lt, ◌<ℤ◌, ◌≤ℤ◌, FitsSigned}
use Rattle.std.specs.Int.{w64, cast_signed}
use Rattle.std.specs.Option.{ForSome}
use Rattle.std.proofs.lemmas.Int.{ints}
use Rattle.std.proofs.lemmas.Bool.Decides.{nat_tests}
use mir.Val.{sel}
use Rattle.log_terms.specs.Batch.{field_at, max_ts_of}
use Rattle.log_terms.specs.Log.{joined}
use Rattle.sparse_index.specs.Entries.{last_of}
use Rattle.sparse_index.specs.Times.{AreMoments}
use Rattle.sparse_index.proofs.TimeLaws.{moments-push}
use Rattle.segment_file.specs.declared.placed.Placed.{Placed}
use Rattle.segment_file.specs.Index.{Marks, placed, placed_from, is_due, with_time, time_of, unmarked, marked, marked_by, time_index_of}
use Rattle.segment_file.specs.Marking.{MayMark}
use Rattle.segment_file.specs.Segment.{IsSegment}
use Rattle.segment_file.proofs.Laying.{marked_append}
use Rattle.segment_file.proofs.Placing.{placed_push}
use Rattle.segment_file.proofs.Tracking.{last_moment, may_mark, tops_front}

-- a signed field fits, whatever is there
read_fits : (n : ℕ) → FitsSigned w64 (cast_signed w64 n)
read_fits n = by (nat_lt n (2 ^ 63)) refl
  where
    by : (t : Bool) → nat_lt n (2 ^ 63) ≡ t → FitsSigned w64 (sel t (pos n) (negsuc (2 ^ 64 - suc n)))
    by true is = grind (arith, ints, nat_tests, is)
    by false is = grind (arith, ints, nat_tests, is)

-- so does a batch's greatest timestamp
max_fits : (batch : List ℕ) → FitsSigned w64 (max_ts_of batch)
unfolding max_ts_of
max_fits batch = read_fits (field_at w64 35 batch)

above_none : (ts : ℤ) → int_lt (negsuc 0) ts ≡ true → pos 0 ≤ℤ ts
above_none ts is = grind (arith, ints)

above_some : (low ts : ℤ) → pos 0 ≤ℤ low → int_lt low ts ≡ true → pos 0 ≤ℤ ts
above_some low ts up is = grind (arith, ints)

later : (low ts : ℤ) → int_lt low ts ≡ true → low <ℤ ts
later low ts is = grind (arith, ints)

-- the entries with that of a greatest timestamp, where one is due
one_more : (base : ℕ) (moments : List (ℤ × ℕ)) (top : ℤ × ℕ) → AreMoments moments → FitsSigned w64 top.0 → base ≤ top.1 → top.1 < base + 2 ^ 31
    → ForSome (last_of moments) (λ moment. base + moment.1 ≤ top.1) → AreMoments (with_time base moments top)
one_more base moments top h fits from near above = by (int_lt (time_of (last_of moments)) top.0) refl
  where
    low : (o : Option (ℤ × ℕ)) → last_of moments ≡ o → int_lt (time_of o) top.0 ≡ true → pos 0 ≤ℤ top.0
    low None e is = above_none top.0 is
    low (Some moment) e is = above_some moment.0 top.0 (last_moment moments moment h e) is

    by : (t : Bool) → int_lt (time_of (last_of moments)) top.0 ≡ t → AreMoments (cond t (moments ++ (top.0, top.1 - base) ∷ []) moments)
    by true is =
        moments-push moments (top.0, top.1 - base) h (fits, low (last_of moments) refl is, omega (arith, near, from))
        (λ moment e. (let up = above moment e in
        (later moment.0 top.0 (subst (λ (o : Option (ℤ × ℕ)). int_lt (time_of o) top.0 ≡ true) e is), omega (arith, up))))
    by false is = h

-- the entries on their way rise, and the greatest timestamp fits
abbrev AreTimed : List (ℤ × ℕ) → ℤ → Type 0
AreTimed moments ts = AreMoments moments × FitsSigned w64 ts

-- they do with a batch more
timed_more : (base interval : ℕ) (marks : Marks) (batch : Placed) → MayMark base marks batch → FitsSigned w64 batch.max_ts → AreTimed marks.moments marks.top.0
    → AreTimed (marked base interval marks batch).moments (marked base interval marks batch).top.0
timed_more base interval marks batch m fits h = by (int_lt marks.top.0 batch.max_ts) (is_due interval marks.entries marks.size)
  where
    due : (d : Bool) (top : ℤ × ℕ) → FitsSigned w64 top.0 → base ≤ top.1 → top.1 < base + 2 ^ 31 → ForSome (last_of marks.moments) (λ moment. base + moment.1 ≤ top.1)
        → AreTimed (cond d (with_time base marks.moments top) marks.moments) top.0
    due true top f from near above = (one_more base marks.moments top h.0 f from near above, f)
    due false top f from near above = (h.0, f)

    by : (u d : Bool) → AreTimed (cond d (with_time base marks.moments (cond u (batch.max_ts, batch.last) marks.top)) marks.moments) (cond u (batch.max_ts, batch.last) marks.top).0
    by true d = due d (batch.max_ts, batch.last) fits m.from_base m.near (λ moment e. (let up = m.top.above moment e in let more = m.later in omega (arith, up, more)))
    by false d = due d marks.top h.1 m.top.from_base m.top.near m.top.above

-- the front's entries, and those of all
timed_on : (base interval : ℕ) (front rest : List (List ℕ)) → IsSegment base (front ++ rest)
    → AreTimed (marked_by base interval (unmarked base) (placed_from 0 front)).moments (marked_by base interval (unmarked base) (placed_from 0 front)).top.0
    → AreTimed (marked_by base interval (unmarked base) (placed_from 0 (front ++ rest))).moments (marked_by base interval (unmarked base) (placed_from 0 (front ++ rest))).top.0
timed_on base interval front [] s h =
    subst (λ (l : List (List ℕ)). AreTimed (marked_by base interval (unmarked base) (placed_from 0 l)).moments (marked_by base interval (unmarked base) (placed_from 0 l)).top.0) (sym (append-nil front)) h
timed_on base interval front (batch ∷ rest) s h =
    let whole : (front ++ batch ∷ []) ++ rest ≡ front ++ batch ∷ rest = append_assoc front (batch ∷ []) rest in
    let marks = marked_by base interval (unmarked base) (placed_from 0 front) in
    let none : 0 + length (joined front) ≡ length (joined front) = omega arith in
    let next : marked_by base interval (unmarked base) (placed_from 0 (front ++ batch ∷ [])) ≡ marked base interval marks (placed (length (joined front)) batch) =
    ap (marked_by base interval (unmarked base)) (placed_push 0 front batch)
    ∙ ap (λ (n : ℕ). marked_by base interval (unmarked base) (placed_from 0 front ++ placed n batch ∷ [])) none
    ∙ marked_append base interval (unmarked base) (placed_from 0 front) (placed (length (joined front)) batch ∷ []) in
    let more = timed_more base interval marks (placed (length (joined front)) batch) (may_mark base interval front rest batch s) (max_fits batch) h in
    subst (λ (l : List (List ℕ)). AreTimed (marked_by base interval (unmarked base) (placed_from 0 l)).moments (marked_by base interval (unmarked base) (placed_from 0 l)).top.0) whole
    (timed_on base interval (front ++ batch ∷ []) rest (subst (IsSegment base) (sym whole) s) (subst (λ (m : Marks). AreTimed m.moments m.top.0) (sym next) more))

pub times_rise : (base interval : ℕ) (batches : List (List ℕ)) → IsSegment base batches → AreMoments (time_index_of base interval (placed_from 0 batches)).entries
times_rise base interval batches s =
    let marks = marked_by base interval (unmarked base) (placed_from 0 batches) in
    let h = timed_on base interval [] batches s (tt, read_fits (2 ^ 64 - 1)) in
    let tops = tops_front base interval batches s in
    one_more base marks.moments marks.top h.0 h.1 tops.from_base tops.near tops.above
