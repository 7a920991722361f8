-- Each time entry is the greatest so far, and each batch's timestamp is reached soon.
use Rattle.std.proofs.Common.{◌≡◌, ◌∙◌, ap, sym, refl, subst, ◌⊎◌, ⊎_elim, ℕ, zero, suc, ◌+◌, ◌-◌, ◌<◌, ◌≤◌, Bool, true, false, cond, ℤ, negsuc, List, [], ◌∷◌, ◌++◌, length, Some, None, inl, inr, arith, append_assoc, append-nil, length-append}
use Rattle.std.specs.Prelude.{int_lt, ◌≤ℤ◌, ◌<ℤ◌, slice_index_or}
use Rattle.std.specs.List.{Contains}
use Rattle.std.specs.declared.option.Option.{Option}
use Rattle.std.proofs.lemmas.Bool.{ltb-false}
use Rattle.std.proofs.lemmas.Int.{ints}
use Rattle.std.proofs.lemmas.List.Elements.{Contains-append_left, Contains-append_cases}
use Rattle.log_terms.specs.Batch.{max_ts_of}
use Rattle.log_terms.specs.Log.{joined}
use Rattle.sparse_index.specs.Entries.{last_of}
use Rattle.segment_file.specs.declared.placed.Placed.{Placed}
use Rattle.segment_file.specs.Index.{Marks, placed, placed_from, begun_at, is_due, time_of, with_time, raised, unmarked, marked, marked_by, time_index_of}
use Rattle.segment_file.specs.Density.{AreEarlier, IsTimeOf, BeginBy, HasMomentFor}
use Rattle.segment_file.proofs.Runs.{joined_push}
use Rattle.segment_file.proofs.Laying.{marked_append, last_push}
use Rattle.segment_file.proofs.Placing.{placed_append}
use Rattle.segment_file.proofs.Dense.{low_all, contains_last, above_old, above_new, up_through, top_closed}

-- the one element of a list
contains_single : {X : Type 0} (x y : X) → Contains (x ∷ []) y → x ≡ y
contains_single x y h = go h.0 h.1 h.2
  where
    go : (k : ℕ) → k < 1 → slice_index_or (x ∷ []) k y ≡ y → x ≡ y
    go zero low is = is
    go (suc k) low is = absurd (omega (arith, low))

-- no batch is later than a timestamp
abbrev AreUpTo : ℤ → List (List ℕ) → Type 0
AreUpTo ts [] = Unit {0}
AreUpTo ts (batch ∷ batches) = (max_ts_of batch ≤ℤ ts) × AreUpTo ts batches

up_to_more : (ts now : ℤ) (batches : List (List ℕ)) (batch : List ℕ) → ts ≤ℤ now → max_ts_of batch ≤ℤ now → AreUpTo ts batches → AreUpTo now (batches ++ batch ∷ [])
up_to_more ts now [] batch up one all = (one, tt)
up_to_more ts now (b ∷ batches) batch up one all = (up_through (max_ts_of b) ts now all.0 up, up_to_more ts now batches batch up one all.1)

below : (a b c : ℤ) → a ≤ℤ b → b <ℤ c → a <ℤ c
below a b c h k = omega (arith, ints, h, k)

earlier_all : (ts now : ℤ) (batches : List (List ℕ)) → ts <ℤ now → AreUpTo ts batches → AreEarlier now batches
earlier_all ts now [] up all = tt
earlier_all ts now (b ∷ batches) up all = (below (max_ts_of b) ts now all.0 up, earlier_all ts now batches up all.1)

-- an entry stays with a batch more
abbrev time_more : (base : ℕ) (batches : List (List ℕ)) (batch : List ℕ) (entry : ℤ × ℕ) → IsTimeOf base batches entry → IsTimeOf base (batches ++ batch ∷ []) entry
time_more base batches batch entry t = record {
  front = t.front;
  batch = t.batch;
  rest = t.rest ++ batch ∷ [];
  parts = ap (λ (l : List (List ℕ)). l ++ batch ∷ []) t.parts ∙ append_assoc t.front (t.batch ∷ t.rest) (batch ∷ []);
  earlier = t.earlier;
  is = t.is;
}

-- what the high watermarks report the batches so far
record Timed (base : ℕ) (batches : List (List ℕ)) (marks : Marks) : Type 0 where
  size : marks.size ≡ length (joined batches)
  top : (marks.top.0 ≡ negsuc 0) ⊎ IsTimeOf base batches (marks.top.0, marks.top.1 - base)
  up_to : AreUpTo marks.top.0 batches
  least : negsuc 0 ≤ℤ time_of (last_of marks.moments)
  each : (entry : ℤ × ℕ) → Contains marks.moments entry → IsTimeOf base batches entry

timed_none : (base : ℕ) → Timed base [] (unmarked base)
timed_none base = record { size = refl; top = inl refl; up_to = tt; least = omega (arith, ints); each = λ entry among. absurd (omega (arith, among.1)) }

-- the greatest with a batch more
top_more : (base : ℕ) (batches : List (List ℕ)) (batch : List ℕ) (top : ℤ × ℕ) (size : ℕ) → AreUpTo top.0 batches → (top.0 ≡ negsuc 0) ⊎ IsTimeOf base batches (top.0, top.1 - base)
    → ((raised top (placed size batch)).0 ≡ negsuc 0) ⊎ IsTimeOf base (batches ++ batch ∷ []) ((raised top (placed size batch)).0, (raised top (placed size batch)).1 - base)
top_more base batches batch top size up was = go (int_lt top.0 (max_ts_of batch)) refl
  where
    go : (t : Bool) → int_lt top.0 (max_ts_of batch) ≡ t → ((cond t (max_ts_of batch, (placed size batch).last) top).0 ≡ negsuc 0)
        ⊎ IsTimeOf base (batches ++ batch ∷ []) ((cond t (max_ts_of batch, (placed size batch).last) top).0, (cond t (max_ts_of batch, (placed size batch).last) top).1 - base)
    go true e = inr (record { front = batches; batch = batch; rest = []; parts = refl; earlier = earlier_all top.0 (max_ts_of batch) batches (omega (arith, ints, e)) up; is = refl })
    go false e = ⊎_elim (λ none. inl none) (λ of. inr (time_more base batches batch (top.0, top.1 - base) of)) was

-- the time entries with that of the greatest
each_with : (base : ℕ) (batches : List (List ℕ)) (moments : List (ℤ × ℕ)) (top : ℤ × ℕ) → negsuc 0 ≤ℤ time_of (last_of moments) → (top.0 ≡ negsuc 0) ⊎ IsTimeOf base batches (top.0, top.1 - base)
    → ((entry : ℤ × ℕ) → Contains moments entry → IsTimeOf base batches entry) → (entry : ℤ × ℕ) → Contains (with_time base moments top) entry → IsTimeOf base batches entry
each_with base batches moments top least is each entry = go (int_lt (time_of (last_of moments)) top.0) refl
  where
    new : int_lt (time_of (last_of moments)) top.0 ≡ true → (top.0 ≡ negsuc 0) ⊎ IsTimeOf base batches (top.0, top.1 - base) → IsTimeOf base batches (top.0, top.1 - base)
    new e (inl none) = absurd (let low : negsuc 0 ≤ℤ time_of (last_of moments) = least in omega (arith, ints, low, e, none))
    new e (inr of) = of

    go : (t : Bool) → int_lt (time_of (last_of moments)) top.0 ≡ t → Contains (cond t (moments ++ (top.0, top.1 - base) ∷ []) moments) entry → IsTimeOf base batches entry
    go true e among = ⊎_elim (λ old. each entry old) (λ one. subst (IsTimeOf base batches) (contains_single (top.0, top.1 - base) entry one) (new e is)) (Contains-append_cases moments ((top.0, top.1 - base) ∷ []) entry among)
    go false e among = each entry among

least_with : (base : ℕ) (moments : List (ℤ × ℕ)) (top : ℤ × ℕ) → negsuc 0 ≤ℤ time_of (last_of moments) → negsuc 0 ≤ℤ time_of (last_of (with_time base moments top))
least_with base moments top least = go (int_lt (time_of (last_of moments)) top.0) refl
  where
    go : (t : Bool) → int_lt (time_of (last_of moments)) top.0 ≡ t → negsuc 0 ≤ℤ time_of (last_of (cond t (moments ++ (top.0, top.1 - base) ∷ []) moments))
    go true e = rw (last_push moments (top.0, top.1 - base)) (let low : negsuc 0 ≤ℤ time_of (last_of moments) = least in omega (arith, ints, low, e))
    go false e = least

-- the high watermarks with a batch more
timed_step : (base interval : ℕ) (batches : List (List ℕ)) (batch : List ℕ) (marks : Marks) → Timed base batches marks → Timed base (batches ++ batch ∷ []) (marked base interval marks (placed marks.size batch))
timed_step base interval batches batch marks t = record {
  size = let more = ap length (joined_push batches batch) ∙ length-append (joined batches) batch in omega (arith, more, t.size);
  top = top;
  up_to = up_to_more marks.top.0 (raised marks.top one).0 batches batch (above_old marks.top one) (above_new marks.top one) t.up_to;
  least = least (is_due interval marks.entries marks.size);
  each = each (is_due interval marks.entries marks.size);
}
  where
    one : Placed
    one = placed marks.size batch

    top : ((raised marks.top one).0 ≡ negsuc 0) ⊎ IsTimeOf base (batches ++ batch ∷ []) ((raised marks.top one).0, (raised marks.top one).1 - base)
    top = top_more base batches batch marks.top marks.size t.up_to t.top

    old : (entry : ℤ × ℕ) → Contains marks.moments entry → IsTimeOf base (batches ++ batch ∷ []) entry
    old entry among = time_more base batches batch entry (t.each entry among)

    least : (due : Bool) → negsuc 0 ≤ℤ time_of (last_of (cond due (with_time base marks.moments (raised marks.top one)) marks.moments))
    least true = least_with base marks.moments (raised marks.top one) t.least
    least false = t.least

    each : (due : Bool) → (entry : ℤ × ℕ) → Contains (cond due (with_time base marks.moments (raised marks.top one)) marks.moments) entry → IsTimeOf base (batches ++ batch ∷ []) entry
    each true = each_with base (batches ++ batch ∷ []) marks.moments (raised marks.top one) t.least top old
    each false = old

timed_all : (base interval : ℕ) (batches rest : List (List ℕ)) (marks : Marks) → Timed base batches marks → Timed base (batches ++ rest) (marked_by base interval marks (placed_from marks.size rest))
timed_all base interval batches [] marks t = subst (λ (l : List (List ℕ)). Timed base l marks) (sym (append-nil batches)) t
timed_all base interval batches (batch ∷ rest) marks t =
    subst (λ (l : List (List ℕ)). Timed base l (marked_by base interval marks (placed_from marks.size (batch ∷ rest)))) (append_assoc batches (batch ∷ []) rest)
    (timed_all base interval (batches ++ batch ∷ []) rest (marked base interval marks (placed marks.size batch)) (timed_step base interval batches batch marks t))

pub each_entry : (base interval : ℕ) (batches : List (List ℕ)) (entry : ℤ × ℕ) → Contains (time_index_of base interval (placed_from 0 batches)).entries entry → IsTimeOf base batches entry
each_entry base interval batches =
    let marks = marked_by base interval (unmarked base) (placed_from 0 batches) in
    let t = timed_all base interval [] batches (unmarked base) (timed_none base) in
    each_with base batches marks.moments marks.top t.least t.top t.each

-- where batches begin
begin_front : (at limit : ℕ) (front batches rest : List (List ℕ)) (batch one : List ℕ) → batches ++ one ∷ [] ≡ front ++ batch ∷ rest → BeginBy at limit batches → BeginBy at limit front
begin_front at limit [] batches rest batch one e b = tt
begin_front at limit (x ∷ front) [] rest batch one e b = absurd (let few = ap length e in let many = length-append front (batch ∷ rest) in omega (arith, few, many))
begin_front at limit (x ∷ front) (y ∷ batches) rest batch one e b =
    let head : y ≡ x = cc in
    let tail : batches ++ one ∷ [] ≡ front ++ batch ∷ rest = cc in
    (b.0, subst (λ (l : List ℕ). BeginBy (at + length l) limit front) head (begin_front (at + length y) limit front batches rest batch one tail b.1))

begin_prefix : (at limit : ℕ) (front more batches : List (List ℕ)) → batches ≡ front ++ more → BeginBy at limit batches → BeginBy at limit front
begin_prefix at limit [] more batches e b = tt
begin_prefix at limit (x ∷ front) more [] e b = absurd (cc)
begin_prefix at limit (x ∷ front) more (y ∷ batches) e b =
    let head : y ≡ x = cc in
    let tail : batches ≡ front ++ more = cc in
    (b.0, subst (λ (l : List ℕ). BeginBy (at + length l) limit front) head (begin_prefix (at + length y) limit front more batches tail b.1))

begin_all : (at limit : ℕ) (batches : List (List ℕ)) → at + length (joined batches) ≤ limit → BeginBy at limit batches
begin_all at limit [] low = tt
begin_all at limit (x ∷ batches) low = let size = length-append x (joined batches) in (omega (arith, low, size), begin_all (at + length x) limit batches (omega (arith, low, size)))

begin_more : (at limit : ℕ) (batches : List (List ℕ)) (batch : List ℕ) → at + length (joined batches) ≤ limit → BeginBy at limit (batches ++ batch ∷ [])
begin_more at limit [] batch low = (omega (arith, low), tt)
begin_more at limit (x ∷ batches) batch low = let size = length-append x (joined batches) in (omega (arith, low, size), begin_more (at + length x) limit batches batch (omega (arith, low, size)))

-- a timestamp is reached, or no entry was due since its batch began at a place
record Waits (interval at : ℕ) (batches : List (List ℕ)) (marks : Marks) (ts : ℤ) : Type 0 where
  snapshot : begun_at (last_of marks.entries) ≤ at
  begins : BeginBy 0 (at + interval) batches
  up : ts ≤ℤ marks.top.0

abbrev IsSoon : ℕ → ℕ → ℕ → List (List ℕ) → Marks → ℤ → Type 0
IsSoon base interval at batches marks ts = HasMomentFor base batches marks.moments (at + interval) ts ⊎ Waits interval at batches marks ts

-- the entries with that of the greatest reach what it does
reach_with : (base limit : ℕ) (batches : List (List ℕ)) (moments : List (ℤ × ℕ)) (top : ℤ × ℕ) (ts : ℤ) → ts ≤ℤ top.0 → ((entry : ℤ × ℕ) → Contains (with_time base moments top) entry → IsTimeOf base batches entry)
    → ((front rest : List (List ℕ)) (batch : List ℕ) → batches ≡ front ++ batch ∷ rest → BeginBy 0 limit front) → HasMomentFor base batches (with_time base moments top) limit ts
reach_with base limit batches moments top ts up each near = go (last_of (with_time base moments top)) refl
  where
    high : ts ≤ℤ time_of (last_of (with_time base moments top))
    high = up_through ts top.0 _ up (top_closed base moments top)

    go : (last : Option (ℤ × ℕ)) → last_of (with_time base moments top) ≡ last → HasMomentFor base batches (with_time base moments top) limit ts
    go None e = inl (subst (λ (l : Option (ℤ × ℕ)). ts ≤ℤ time_of l) e high)
    go (Some entry) e =
        let among = contains_last (with_time base moments top) entry e in
        let of = each entry among in
        inr (record { entry = entry; among = among; reaches = subst (λ (l : Option (ℤ × ℕ)). ts ≤ℤ time_of l) e high; of = of; near = near of.front of.rest of.batch of.parts })

-- what is reached stays so
reach_more : (base limit : ℕ) (batches : List (List ℕ)) (batch : List ℕ) (moments more : List (ℤ × ℕ)) (ts : ℤ) → HasMomentFor base batches moments limit ts → HasMomentFor base (batches ++ batch ∷ []) (moments ++ more) limit ts
reach_more base limit batches batch moments more ts (inl none) = inl none
reach_more base limit batches batch moments more ts (inr h) =
    inr (record { entry = h.entry; among = Contains-append_left moments more h.entry h.among; reaches = h.reaches; of = time_more base batches batch h.entry h.of; near = h.near })

reach_same : (base limit : ℕ) (batches : List (List ℕ)) (batch : List ℕ) (moments : List (ℤ × ℕ)) (ts : ℤ) → HasMomentFor base batches moments limit ts → HasMomentFor base (batches ++ batch ∷ []) moments limit ts
reach_same base limit batches batch moments ts (inl none) = inl none
reach_same base limit batches batch moments ts (inr h) =
    inr (record { entry = h.entry; among = h.among; reaches = h.reaches; of = time_more base batches batch h.entry h.of; near = h.near })

reach_step : (base limit : ℕ) (batches : List (List ℕ)) (batch : List ℕ) (moments : List (ℤ × ℕ)) (top : ℤ × ℕ) (due : Bool) (ts : ℤ) → HasMomentFor base batches moments limit ts
    → HasMomentFor base (batches ++ batch ∷ []) (cond due (with_time base moments top) moments) limit ts
reach_step base limit batches batch moments top false ts h = reach_same base limit batches batch moments ts h
reach_step base limit batches batch moments top true ts h = go (int_lt (time_of (last_of moments)) top.0)
  where
    go : (t : Bool) → HasMomentFor base (batches ++ batch ∷ []) (cond t (moments ++ (top.0, top.1 - base) ∷ []) moments) limit ts
    go true = reach_more base limit batches batch moments ((top.0, top.1 - base) ∷ []) ts h
    go false = reach_same base limit batches batch moments ts h

-- closing reaches what waits
reach_close : (base limit : ℕ) (batches : List (List ℕ)) (moments : List (ℤ × ℕ)) (top : ℤ × ℕ) (ts : ℤ) → HasMomentFor base batches moments limit ts → HasMomentFor base batches (with_time base moments top) limit ts
reach_close base limit batches moments top ts (inl none) = inl none
reach_close base limit batches moments top ts (inr h) = go (int_lt (time_of (last_of moments)) top.0)
  where
    go : (t : Bool) → HasMomentFor base batches (cond t (moments ++ (top.0, top.1 - base) ∷ []) moments) limit ts
    go true = inr (record { entry = h.entry; among = Contains-append_left moments _ h.entry h.among; reaches = h.reaches; of = h.of; near = h.near })
    go false = inr h

-- a batch more, where what waits is at or below the greatest with it
wait_step : (base interval at : ℕ) (batches : List (List ℕ)) (batch : List ℕ) (marks : Marks) (ts : ℤ) → Timed base batches marks → begun_at (last_of marks.entries) ≤ at → BeginBy 0 (at + interval) batches → ts ≤ℤ (raised marks.top (placed marks.size batch)).0
    → IsSoon base interval at (batches ++ batch ∷ []) (marked base interval marks (placed marks.size batch)) ts
wait_step base interval at batches batch marks ts t snapshot begins up = go (is_due interval marks.entries marks.size) refl
  where
    one : Placed
    one = placed marks.size batch

    after : Bool → Marks
    after due = record {
      size = one.to;
      entries = cond due (marks.entries ++ (one.last - base, marks.size) ∷ []) marks.entries;
      moments = cond due (with_time base marks.moments (raised marks.top one)) marks.moments;
      top = raised marks.top one;
    }

    now : Timed base (batches ++ batch ∷ []) (marked base interval marks one)
    now = timed_step base interval batches batch marks t

    low : is_due interval marks.entries marks.size ≡ false → length (joined batches) ≤ at + interval
    low e = let few = ltb-false interval (marks.size - begun_at (last_of marks.entries)) e in omega (arith, few, snapshot, t.size)

    go : (due : Bool) → is_due interval marks.entries marks.size ≡ due → IsSoon base interval at (batches ++ batch ∷ []) (after due) ts
    go true e =
        inl (reach_with base (at + interval) (batches ++ batch ∷ []) marks.moments (raised marks.top one) ts up
        (subst (λ (due : Bool). (entry : ℤ × ℕ) → Contains (cond due (with_time base marks.moments (raised marks.top one)) marks.moments) entry → IsTimeOf base (batches ++ batch ∷ []) entry) e now.each)
        (λ front rest b parts. begin_front 0 (at + interval) front batches rest b batch parts begins))
    go false e = inr (record { snapshot = snapshot; begins = begin_more 0 (at + interval) batches batch (let few = low e in omega (arith, few)); up = up })

soon_step : (base interval at : ℕ) (batches : List (List ℕ)) (batch : List ℕ) (marks : Marks) (ts : ℤ) → Timed base batches marks → IsSoon base interval at batches marks ts
    → IsSoon base interval at (batches ++ batch ∷ []) (marked base interval marks (placed marks.size batch)) ts
soon_step base interval at batches batch marks ts t (inl h) =
    inl (reach_step base (at + interval) batches batch marks.moments (raised marks.top (placed marks.size batch)) (is_due interval marks.entries marks.size) ts h)
soon_step base interval at batches batch marks ts t (inr w) =
    wait_step base interval at batches batch marks ts t w.snapshot w.begins (up_through ts marks.top.0 _ w.up (above_old marks.top (placed marks.size batch)))

soon_all : (base interval at : ℕ) (batches rest : List (List ℕ)) (marks : Marks) (ts : ℤ) → Timed base batches marks → IsSoon base interval at batches marks ts
    → Timed base (batches ++ rest) (marked_by base interval marks (placed_from marks.size rest)) × IsSoon base interval at (batches ++ rest) (marked_by base interval marks (placed_from marks.size rest)) ts
soon_all base interval at batches [] marks ts t s = subst (λ (l : List (List ℕ)). Timed base l marks × IsSoon base interval at l marks ts) (sym (append-nil batches)) (t, s)
soon_all base interval at batches (batch ∷ rest) marks ts t s =
    let then = marked_by base interval marks (placed_from marks.size (batch ∷ rest)) in
    subst (λ (l : List (List ℕ)). Timed base l then × IsSoon base interval at l then ts) (append_assoc batches (batch ∷ []) rest)
    (soon_all base interval at (batches ++ batch ∷ []) rest (marked base interval marks (placed marks.size batch)) ts
    (timed_step base interval batches batch marks t) (soon_step base interval at batches batch marks ts t s))

soon_closed : (base interval at : ℕ) (batches : List (List ℕ)) (marks : Marks) (ts : ℤ) → Timed base batches marks → IsSoon base interval at batches marks ts → HasMomentFor base batches (with_time base marks.moments marks.top) (at + interval) ts
soon_closed base interval at batches marks ts t (inl h) = reach_close base (at + interval) batches marks.moments marks.top ts h
soon_closed base interval at batches marks ts t (inr w) =
    reach_with base (at + interval) batches marks.moments marks.top ts w.up (each_with base batches marks.moments marks.top t.least t.top t.each)
    (λ front rest batch parts. begin_prefix 0 (at + interval) front (batch ∷ rest) batches parts w.begins)

pub each_near : (base interval : ℕ) (front rest : List (List ℕ)) (batch : List ℕ)
    → HasMomentFor base (front ++ batch ∷ rest) (time_index_of base interval (placed_from 0 (front ++ batch ∷ rest))).entries (length (joined front) + interval) (max_ts_of batch)
each_near base interval front rest batch =
    let at = length (joined front) in
    let marks = marked_by base interval (unmarked base) (placed_from 0 front) in
    let t : Timed base front marks = timed_all base interval [] front (unmarked base) (timed_none base) in
    let one = placed marks.size batch in
    let low : begun_at (last_of marks.entries) ≤ marks.size = low_all base interval (unmarked base) front (omega arith) in
    let s : IsSoon base interval at (front ++ batch ∷ []) (marked base interval marks one) (max_ts_of batch) =
    wait_step base interval at front batch marks (max_ts_of batch) t (omega (arith, low, t.size)) (begin_all 0 (at + interval) front (omega arith)) (above_new marks.top one)
    in
    let all = soon_all base interval at (front ++ batch ∷ []) rest (marked base interval marks one) (max_ts_of batch) (timed_step base interval front batch marks t) s in
    let then = marked_by base interval (marked base interval marks one) (placed_from one.to rest) in
    let whole = marked_by base interval (unmarked base) (placed_from 0 (front ++ batch ∷ rest)) in
    let same : whole ≡ then =
    ap (marked_by base interval (unmarked base)) (placed_append 0 front (batch ∷ rest)) ∙ marked_append base interval (unmarked base) (placed_from 0 front) (placed_from (0 + at) (batch ∷ rest))
    ∙ ap (λ (n : ℕ). marked_by base interval marks (placed_from n (batch ∷ rest))) (let place : 0 + at ≡ marks.size = omega (arith, t.size) in place)
    in
    let closed = soon_closed base interval at ((front ++ batch ∷ []) ++ rest) then (max_ts_of batch) all.0 all.1 in
    subst (λ (m : Marks). HasMomentFor base (front ++ batch ∷ rest) (with_time base m.moments m.top) (at + interval) (max_ts_of batch)) (sym same)
    (subst (λ (l : List (List ℕ)). HasMomentFor base l (with_time base then.moments then.top) (at + interval) (max_ts_of batch)) (append_assoc front (batch ∷ []) rest) closed)
