-- What a segment's time index says of its batches, and that its bytes give its entries.
use Rattle.std.proofs.Common.{◌≡◌, inl, inr, ◌∙◌, sym, ap, subst, refl, ℕ, ◌+◌, ◌-◌, ◌^◌, ◌<◌, ◌≤◌, Bool, true, false, cond, List, [], ◌∷◌, ◌++◌, length, Some, None, Option, arith, append_assoc, append-nil}
use Rattle.std.specs.Prelude.{ℤ, ◌<ℤ◌, ◌≤ℤ◌, int_lt, filter, FitsSigned}
use Rattle.std.specs.Int.{w64, cast_signed}
use Rattle.std.specs.List.{AllByRecursion}
use Rattle.std.specs.Option.{option_map}
use Rattle.std.proofs.lemmas.Int.{ints}
use Rattle.tier_base.specs.Told.{In}
use Rattle.log_terms.specs.Batch.{field_at, base_of, last_of, max_ts_of}
use Rattle.log_terms.specs.Log.{IsConsecutive, end_from}
use Rattle.log_terms.proofs.Logs.{end_above, end_append}
use Rattle.sparse_index.specs.Bytes.{bytes_of}
use Rattle.sparse_index.specs.Entries.{last_of as last_entry, last_passing}
use Rattle.sparse_index.specs.Times.{TimeTable, FitsMoment, RisesInTime, AreMoments, moment_of, moment_bytes, below_time}
use Rattle.sparse_index.proofs.BytesLaws.{pieces-same, chain-all}
use Rattle.sparse_index.proofs.TimeLaws.{IsWide, moment-same, moment-long}
use Rattle.segment_file.specs.Index.{Marks, placed, placed_from, is_due, with_time, time_of, raised, unmarked, marked, marked_by, time_index_of}
use Rattle.segment_file.specs.Segment.{IsSegment}
use Rattle.laws_time_find.proofs.Dates.{in_either, all_in, in_beginning, consecutive_back}

-- the greatest timestamp so far

fits_any : (n : ℕ) → FitsSigned w64 (cast_signed w64 n)
fits_any n = grind (arith, ints)

fits_batch : (batch : List ℕ) → FitsSigned w64 (max_ts_of batch)
unfolding max_ts_of
fits_batch batch = fits_any (field_at w64 35 batch)

-- it is no batch's that isn't counted, and the batch that it is of ends within those
record Topped (base : ℕ) (front : List (List ℕ)) (top : ℤ × ℕ) : Type 0 where
  pub from : base ≤ top.1
  pub before : top.1 ≤ end_from base front
  pub above : (b : List ℕ) → In b front → max_ts_of b ≤ℤ top.0
  pub fits : FitsSigned w64 top.0

topped_next : (base at : ℕ) (front : List (List ℕ)) (batch : List ℕ) (top : ℤ × ℕ) → Topped base front top → base_of batch ≡ end_from base front
    → Topped base (front ++ batch ∷ []) (raised top (placed at batch)) × ((raised top (placed at batch)).1 ≤ last_of batch)
topped_next base at front batch top h next = by (int_lt top.0 (max_ts_of batch)) refl
  where
    below : (a b c : ℤ) → a ≤ℤ b → int_lt b c ≡ true → a ≤ℤ c
    below a b c h k = grind (arith, ints)

    at_most : (a b : ℤ) → int_lt a b ≡ false → b ≤ℤ a
    at_most a b h = grind (arith, ints)

    same : (a : ℤ) → a ≤ℤ a
    same a = grind (arith, ints)

    end : end_from base (front ++ batch ∷ []) ≡ last_of batch + 1
    end = end_append base front (batch ∷ [])

    by : (t : Bool) → int_lt top.0 (max_ts_of batch) ≡ t → Topped base (front ++ batch ∷ []) (raised top (placed at batch)) × ((raised top (placed at batch)).1 ≤ last_of batch)
    by true is =
        let from = h.from in
        let before = h.before in
        rw is (
          record {
            from = omega (arith, from, before, next);
            before = omega (arith, end);
            above = λ b there. elim (in_either b front (batch ∷ []) there) [
              | inl i ↦ below (max_ts_of b) top.0 (max_ts_of batch) (h.above b i) is
              | inr i ↦ elim i [
                | inl e ↦ subst (λ (c : List ℕ). max_ts_of c ≤ℤ max_ts_of batch) (sym e) (same (max_ts_of batch))
                | inr none ↦ absurd none
              ]
            ];
            fits = fits_batch batch;
          },
          omega arith,
        )
    by false is =
        let from = h.from in
        let before = h.before in
        rw is (
          record {
            from = from;
            before = omega (arith, end, before, next);
            above = λ b there. elim (in_either b front (batch ∷ []) there) [
              | inl i ↦ h.above b i
              | inr i ↦ elim i [
                | inl e ↦ subst (λ (c : List ℕ). max_ts_of c ≤ℤ top.0) (sym e) (at_most top.0 (max_ts_of batch) is)
                | inr none ↦ absurd none
              ]
            ];
            fits = h.fits;
          },
          omega (arith, before, next),
        )

-- entries

-- no batch that ends at or below an entry's offset has a later timestamp
pub record Tells (base : ℕ) (batches : List (List ℕ)) (moment : ℤ × ℕ) : Type 0 where
  pub bounds : (b : List ℕ) → In b batches → last_of b ≤ base + moment.1 → max_ts_of b ≤ℤ moment.0
  pub wide : IsWide moment

told_front : (base : ℕ) (front rest : List (List ℕ)) (top : ℤ × ℕ) → IsConsecutive base (front ++ rest) → end_from base (front ++ rest) ≤ base + 2 ^ 31 → Topped base front top → top.1 < end_from base front
    → Tells base (front ++ rest) (top.0, top.1 - base)
told_front base front rest top c near h low =
    let from = h.from in
    let up = end_above (end_from base front) rest (consecutive_back base front rest c) in
    let end = end_append base front rest in
    record {
      bounds = λ b there last. h.above b (in_beginning base front rest b c there (omega (arith, last, from, low)));
      wide = (h.fits, omega (arith, low, up, end, near));
    }

told_all : (base : ℕ) (batches : List (List ℕ)) (top : ℤ × ℕ) → end_from base batches ≤ base + 2 ^ 31 → Topped base batches top → Tells base batches (top.0, top.1 - base)
told_all base batches top near h =
    let before = h.before in record {
      bounds = λ b there last. h.above b there;
      wide = (h.fits, omega (arith, before, near));
    }

all_push : {X : Type 0} (P : X → Type 0) (xs : List X) (x : X) → AllByRecursion P xs → P x → AllByRecursion P (xs ++ x ∷ [])
all_push P [] x all one = (one, tt)
all_push P (y ∷ xs) x all one = (all.0, all_push P xs x all.1 one)

all_times : (P : ℤ × ℕ → Type 0) (base : ℕ) (moments : List (ℤ × ℕ)) (top : ℤ × ℕ) → AllByRecursion P moments → P (top.0, top.1 - base) → AllByRecursion P (with_time base moments top)
all_times P base moments top all one = by (int_lt (time_of (last_entry moments)) top.0)
  where
    by : (t : Bool) → AllByRecursion P (cond t (moments ++ (top.0, top.1 - base) ∷ []) moments)
    by true = all_push P moments (top.0, top.1 - base) all one
    by false = all

all_due : (P : ℤ × ℕ → Type 0) (t : Bool) (more moments : List (ℤ × ℕ)) → AllByRecursion P more → AllByRecursion P moments → AllByRecursion P (cond t more moments)
all_due P true more moments h k = h
all_due P false more moments h k = k

-- over all batches
walked : (base interval : ℕ) (whole front rest : List (List ℕ)) (at : ℕ) (marks : Marks) → whole ≡ front ++ rest → IsConsecutive base whole → end_from base whole ≤ base + 2 ^ 31 → Topped base front marks.top
    → AllByRecursion (Tells base whole) marks.moments
    → AllByRecursion (Tells base whole) (marked_by base interval marks (placed_from at rest)).moments × Topped base whole (marked_by base interval marks (placed_from at rest)).top
walked base interval whole front [] at marks parts c near top all = (all, subst (λ (l : List (List ℕ)). Topped base l marks.top) (sym (parts ∙ append-nil front)) top)
walked base interval whole front (batch ∷ rest) at marks parts c near top all =
    let row = consecutive_back base front (batch ∷ rest) (subst (IsConsecutive base) parts c) in
    let next = topped_next base at front batch marks.top top row.0 in
    let whole_is : whole ≡ (front ++ batch ∷ []) ++ rest = parts ∙ sym (append_assoc front (batch ∷ []) rest) in
    let end : end_from base (front ++ batch ∷ []) ≡ last_of batch + 1 = end_append base front (batch ∷ []) in
    let low = next.1 in
    let one : Tells base whole ((raised marks.top (placed at batch)).0, (raised marks.top (placed at batch)).1 - base) =
    subst (λ (l : List (List ℕ)). Tells base l ((raised marks.top (placed at batch)).0, (raised marks.top (placed at batch)).1 - base)) (sym whole_is)
    (told_front base (front ++ batch ∷ []) rest (raised marks.top (placed at batch)) (subst (IsConsecutive base) whole_is c) (subst (λ (l : List (List ℕ)). end_from base l ≤ base + 2 ^ 31) whole_is near) next.0 (omega (arith, low, end))) in
    walked base interval whole (front ++ batch ∷ []) rest (at + length batch) (marked base interval marks (placed at batch)) whole_is c near next.0
    (all_due (Tells base whole) (is_due interval marks.entries marks.size) (with_time base marks.moments (raised marks.top (placed at batch))) marks.moments
    (all_times (Tells base whole) base marks.moments (raised marks.top (placed at batch)) all one) all)

topped_first : (base : ℕ) → Topped base [] (unmarked base).top
topped_first base = record { from = omega arith; before = omega arith; above = λ b there. absurd there; fits = grind (arith, ints) }

-- the entries of a segment's time index
pub times_tell : (base interval : ℕ) (batches : List (List ℕ)) → IsSegment base batches → AllByRecursion (Tells base batches) (time_index_of base interval (placed_from 0 batches)).entries
times_tell base interval batches s =
    let k = walked base interval batches [] batches 0 (unmarked base) refl s.consecutive s.near (topped_first base) tt in
    let marks = marked_by base interval (unmarked base) (placed_from 0 batches) in
    all_times (Tells base batches) base marks.moments marks.top k.0 (told_all base batches marks.top s.near k.1)

-- lookups

last_in : {X : Type 0} (xs : List X) (x : X) → last_entry xs ≡ Some x → In x xs
last_in [] x is = absurd (cc (is))
last_in (y ∷ []) x is = inl (cc (is))
last_in (y ∷ z ∷ xs) x is = inr (last_in (z ∷ xs) x is)

passing_in : {X : Type 0} (test : X → Bool) (xs : List X) (x : X) → In x (filter test xs) → In x xs × (test x ≡ true)
passing_in test [] x there = absurd there
passing_in {X} test (y ∷ xs) x there = by (test y) refl there (passing_in test xs x)
  where
    by : (t : Bool) → test y ≡ t → In x (cond t (y ∷ filter test xs) (filter test xs)) → (In x (filter test xs) → In x xs × (test x ≡ true)) → In x (y ∷ xs) × (test x ≡ true)
    by true is (inl here) more = (inl here, ap test here ∙ is)
    by true is (inr rest) more = (let k = more rest in (inr k.0, k.1))
    by false is rest more = (let k = more rest in (inr k.0, k.1))

-- up to the batch that a time index shows for a timestamp, all are before it
pub shown_early : (ts : ℤ) (base interval : ℕ) (batches : List (List ℕ)) (moment : ℤ × ℕ) → IsSegment base batches
    → below_time (time_index_of base interval (placed_from 0 batches)) ts ≡ Some moment → (b : List ℕ) → In b batches → last_of b ≤ moment.1 → max_ts_of b <ℤ ts
shown_early ts base interval batches moment s is b there low =
    by (last_passing (λ entry. int_lt entry.0 ts) (time_index_of base interval (placed_from 0 batches)).entries) refl is
  where
    lower : (a b c : ℤ) → a ≤ℤ b → int_lt b c ≡ true → a <ℤ c
    lower a b c h k = grind (arith, ints)

    by : (found : Option (ℤ × ℕ)) → last_passing (λ entry. int_lt entry.0 ts) (time_index_of base interval (placed_from 0 batches)).entries ≡ found → option_map (moment_of base) found ≡ Some moment → max_ts_of b <ℤ ts
    by None found is = absurd (cc (is))
    by (Some entry) found is =
        let k = passing_in (λ (e : ℤ × ℕ). int_lt e.0 ts) (time_index_of base interval (placed_from 0 batches)).entries entry
        (last_in (filter (λ (e : ℤ × ℕ). int_lt e.0 ts) (time_index_of base interval (placed_from 0 batches)).entries) entry found) in
        let is_observable = all_in (Tells base batches) (time_index_of base interval (placed_from 0 batches)).entries entry (times_tell base interval batches s) k.0 in
        let same : moment_of base entry ≡ moment = cc (is) in
        let last : base + entry.1 ≡ moment.1 = ap (λ (m : ℤ × ℕ). m.1) same in
        lower (max_ts_of b) entry.0 ts (is_observable.bounds b there (omega (arith, low, last))) k.1

-- bytes

wide_same : (xs ys : List (ℤ × ℕ)) → AllByRecursion IsWide xs → AllByRecursion IsWide ys → bytes_of moment_bytes xs ≡ bytes_of moment_bytes ys → xs ≡ ys
wide_same [] [] h k is = refl
wide_same [] (y ∷ ys) h k is = absurd (cc (is))
wide_same (x ∷ xs) [] h k is = absurd (cc (is))
wide_same (x ∷ xs) (y ∷ ys) h k is =
    let parts = pieces-same (moment_bytes x) (moment_bytes y) (bytes_of moment_bytes xs) (bytes_of moment_bytes ys) (moment-long x ∙ sym (moment-long y)) is in
    ap (λ (z : ℤ × ℕ). z ∷ xs) (moment-same x y h.0 k.0 parts.0) ∙ ap (λ (zs : List (ℤ × ℕ)). y ∷ zs) (wide_same xs ys h.1 k.1 parts.1)

wide : (entries : List (ℤ × ℕ)) → AreMoments entries → AllByRecursion IsWide entries
wide entries h = chain-all FitsMoment IsWide RisesInTime (λ x fits. (fits.0, omega (arith, fits.2))) entries h

all_wide : (base : ℕ) (batches : List (List ℕ)) (entries : List (ℤ × ℕ)) → AllByRecursion (Tells base batches) entries → AllByRecursion IsWide entries
all_wide base batches [] h = tt
all_wide base batches (e ∷ entries) h = (h.0.wide, all_wide base batches entries h.1)

-- the bytes of a segment's time index are read as that index
pub times_read : (index : TimeTable) (base interval : ℕ) (batches : List (List ℕ)) → IsSegment base batches → index.base ≡ base → AreMoments index.entries
    → bytes_of moment_bytes index.entries ≡ bytes_of moment_bytes (time_index_of base interval (placed_from 0 batches)).entries → index ≡ time_index_of base interval (placed_from 0 batches)
times_read index base interval batches s base_is rises same =
    let whole = time_index_of base interval (placed_from 0 batches) in
    let entries = wide_same index.entries whole.entries (wide index.entries rises) (all_wide base batches whole.entries (times_tell base interval batches s)) same in
    ap (λ (n : ℕ). (let t : TimeTable = record { base = n; entries = index.entries } in t)) base_is
    ∙ ap (λ (es : List (ℤ × ℕ)). (let t : TimeTable = record { base = base; entries = es } in t)) entries
