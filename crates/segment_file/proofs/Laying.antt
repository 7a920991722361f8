-- Batches that are laid one after another, and the index that grows with them.
use Rattle.std.proofs.Common.{◌≡◌, ◌∙◌, ap, sym, refl, ℕ, zero, suc, ◌+◌, ◌-◌, ◌^◌, ◌<◌, ◌≤◌, ◌==◌, nat_lt, Bool, true, false, if◌then◌else◌, ℤ, List, [], ◌∷◌, ◌++◌, length, take, get_or, add-one, Some, arith}
use Rattle.std.specs.Int.{int_max}
use Rattle.std.specs.List.{slice_get}
use Rattle.std.specs.List.Sorted.{IsPartitionPoint, IsNonDecreasingBy}
use Rattle.std.specs.Option.{ForSome}
use Rattle.std.proofs.lemmas.Option.{same_Some}
use Rattle.std.proofs.lemmas.List.Sorted.{IsNonDecreasingBy-from_all_adjacent}
use Rattle.sparse_index.specs.Entries.{last_of}
use Rattle.sparse_index.specs.Offsets.{OffsetTable, Rises}
use Rattle.segment_file.specs.declared.placed.Placed.{Placed}
use Rattle.segment_file.specs.Index.{Marks, is_due, with_offset, unmarked, marked, marked_by, index_of}
use Rattle.segment_file.specs.Growing.{end_after, size_after, ending_by, latest_from, latest_ts, AreBatchesLaid, IsGrowing}

-- the last batch gives where all of them end
pub last_size : (at : ℕ) (batches : List Placed) (batch : Placed) → slice_get batches (length batches - 1) ≡ Some batch → size_after at batches ≡ batch.to
last_size at [] batch e = absurd (cc)
last_size at (one ∷ []) batch e = ap (λ (b : Placed). b.to) (same_Some one batch e)
last_size at (one ∷ two ∷ batches) batch e =
    let less : suc (suc (length batches)) - 1 ≡ suc (length batches - 0) = omega arith in
    let same : suc (length batches) - 1 ≡ length batches - 0 = omega arith in
    last_size one.to (two ∷ batches) batch (rw same (rw less at e))

pub last_end : (first : ℕ) (batches : List Placed) (batch : Placed) → slice_get batches (length batches - 1) ≡ Some batch → end_after first batches ≡ batch.last + 1
last_end first [] batch e = absurd (cc)
last_end first (one ∷ []) batch e = ap (λ (b : Placed). b.last + 1) (same_Some one batch e)
last_end first (one ∷ two ∷ batches) batch e =
    let less : suc (suc (length batches)) - 1 ≡ suc (length batches - 0) = omega arith in
    let same : suc (length batches) - 1 ≡ length batches - 0 = omega arith in
    last_end (one.last + 1) (two ∷ batches) batch (rw same (rw less at e))

-- the end of batches is not before their beginning
pub end_up : (first at : ℕ) (batches : List Placed) → AreBatchesLaid first at batches → first ≤ end_after first batches
end_up first at [] laid = omega arith
end_up first at (one ∷ batches) laid = let rest = end_up (one.last + 1) one.to batches laid.2 in omega (arith, rest, laid.0)

pub size_up : (first at : ℕ) (batches : List Placed) → AreBatchesLaid first at batches → at ≤ size_after at batches
size_up first at [] laid = omega arith
size_up first at (one ∷ batches) laid = let rest = size_up (one.last + 1) one.to batches laid.2 in omega (arith, rest, laid.1)

-- two parts
pub laid_parts : (first at : ℕ) (front rest : List Placed) → AreBatchesLaid first at (front ++ rest) → AreBatchesLaid first at front × AreBatchesLaid (end_after first front) (size_after at front) rest
laid_parts first at [] rest laid = (tt, laid)
laid_parts first at (one ∷ front) rest laid = let both = laid_parts (one.last + 1) one.to front rest laid.2 in ((laid.0, laid.1, both.0), both.1)

pub laid_push : (first at : ℕ) (batches : List Placed) (batch : Placed) → AreBatchesLaid first at batches → end_after first batches ≤ batch.last → size_after at batches < batch.to → AreBatchesLaid first at (batches ++ batch ∷ [])
laid_push first at [] batch laid up more = (up, more, tt)
laid_push first at (one ∷ batches) batch laid up more = (laid.0, laid.1, laid_push (one.last + 1) one.to batches batch laid.2 up more)

pub end_append : (first : ℕ) (front rest : List Placed) → end_after first (front ++ rest) ≡ end_after (end_after first front) rest
end_append first [] rest = refl
end_append first (one ∷ front) rest = end_append (one.last + 1) front rest

pub size_append : (at : ℕ) (front rest : List Placed) → size_after at (front ++ rest) ≡ size_after (size_after at front) rest
size_append at [] rest = refl
size_append at (one ∷ front) rest = size_append one.to front rest

pub marked_append : (base interval : ℕ) (marks : Marks) (front rest : List Placed) → marked_by base interval marks (front ++ rest) ≡ marked_by base interval (marked_by base interval marks front) rest
marked_append base interval marks [] rest = refl
marked_append base interval marks (one ∷ front) rest = marked_append base interval (marked base interval marks one) front rest

pub marked_size : (base interval : ℕ) (marks : Marks) (batches : List Placed) → (marked_by base interval marks batches).size ≡ size_after marks.size batches
marked_size base interval marks [] = refl
marked_size base interval marks (one ∷ batches) = marked_size base interval (marked base interval marks one) batches

-- the last of a list that grew
pub last_push : {X : Type 0} (xs : List X) (x : X) → last_of (xs ++ x ∷ []) ≡ Some x
last_push [] x = refl
last_push (y ∷ []) x = refl
last_push (y ∷ z ∷ xs) x = last_push (z ∷ xs) x

-- the last entry lies below what comes next, in offset and position
abbrev pub LastBelow : ℕ → List (ℕ × ℕ) → ℕ → ℕ → Type 0
LastBelow base entries end size = ForSome (last_of entries) (λ entry. (base + entry.0 < end) × (entry.1 < size))

below_by : (base interval first : ℕ) (marks : Marks) (one : Placed) (t : Bool) → is_due interval marks.entries marks.size ≡ t → base ≤ one.last → first ≤ one.last → marks.size < one.to
    → LastBelow base marks.entries first marks.size → LastBelow base (with_offset base interval marks.entries marks.size one.last) (one.last + 1) one.to
below_by base interval first marks one true is from up more below = λ entry e.
    let last : (one.last - base, marks.size) ≡ entry = same_Some (one.last - base, marks.size) entry (sym (last_push marks.entries (one.last - base, marks.size)) ∙ rw is at e) in
    rw (← last) (omega (arith, from), more)
below_by base interval first marks one false is from up more below = λ entry e.
    let old : last_of marks.entries ≡ Some entry = rw is at e in
    let b = below entry old in (omega (arith, b.0, up), omega (arith, b.1, more))

pub last_below : (base interval first : ℕ) (marks : Marks) (batches : List Placed) → base ≤ first → AreBatchesLaid first marks.size batches → LastBelow base marks.entries first marks.size
    → LastBelow base (marked_by base interval marks batches).entries (end_after first batches) (size_after marks.size batches)
last_below base interval first marks [] from laid below = below
last_below base interval first marks (one ∷ batches) from laid below =
    last_below base interval (one.last + 1) (marked base interval marks one) batches (omega (arith, from, laid.0)) laid.2
    (below_by base interval first marks one (is_due interval marks.entries marks.size) refl (omega (arith, from, laid.0)) laid.0 laid.1 below)

pub none_below : (base : ℕ) → LastBelow base [] base 0
none_below base = λ entry e. absurd (cc)

-- of a segment's batches
pub entry_below : (base interval : ℕ) (batches : List Placed) → AreBatchesLaid base 0 batches → LastBelow base (index_of base interval batches).entries (end_after base batches) (size_after 0 batches)
entry_below base interval batches laid = last_below base interval base (unmarked base) batches (omega arith) laid (none_below base)

-- so the next batch's entry rises above it
pub rises_above : (base interval last : ℕ) (batches : List Placed) (index : OffsetTable) → AreBatchesLaid base 0 batches → index ≡ index_of base interval batches → end_after base batches ≤ last
    → ForSome (last_of index.entries) (λ entry. Rises entry (last - index.base, size_after 0 batches))
rises_above base interval last batches index laid is up = λ entry e.
    let same : index.base ≡ base = ap (λ (t : OffsetTable). t.base) is in
    let there : last_of (index_of base interval batches).entries ≡ Some entry = ap (λ (t : OffsetTable). last_of t.entries) (sym is) ∙ e in
    let b = entry_below base interval batches laid entry there in (omega (arith, b.0, up, same), b.1)

-- one batch more, whether it has an entry or not
pub index_push : (base interval : ℕ) (batches : List Placed) (batch : Placed)
    → index_of base interval (batches ++ batch ∷ []) ≡ record { base = base; entries = with_offset base interval (index_of base interval batches).entries (size_after 0 batches) batch.last }
index_push base interval batches batch =
    let size = marked_size base interval (unmarked base) batches in
    let all = marked_append base interval (unmarked base) batches (batch ∷ []) in
    let step = ap (λ (m : Marks). table_in base m.entries) all in
    step ∙ ap (λ n. table_in base (with_offset base interval (index_of base interval batches).entries n batch.last)) size
  where
    table_in : ℕ → List (ℕ × ℕ) → OffsetTable
    table_in base entries = record { base = base; entries = entries }

-- the batches that end by an offset come first
lasts-adjacent : (first at : ℕ) (batches : List Placed) (k : ℕ) (d : Placed) → AreBatchesLaid first at batches → suc k < length batches → (get_or batches k d).last ≤ (get_or batches (suc k) d).last
lasts-adjacent first at [] k d laid l = absurd (omega (arith, l))
lasts-adjacent first at (one ∷ []) k d laid l = absurd (omega (arith, l))
lasts-adjacent first at (one ∷ two ∷ batches) zero d laid l = omega (arith, laid.2.0)
lasts-adjacent first at (one ∷ two ∷ batches) (suc k) d laid l = lasts-adjacent (one.last + 1) one.to (two ∷ batches) k d laid.2 (omega (arith, l))

pub lasts-rise : (first at : ℕ) (batches : List Placed) → AreBatchesLaid first at batches → IsNonDecreasingBy (λ (b : Placed). b.last) batches
lasts-rise first at batches laid = IsNonDecreasingBy-from_all_adjacent (λ (b : Placed). b.last) batches (λ k d l. rw add-one (lasts-adjacent first at batches k d laid (omega (arith, l))))

pub rest-point : (p : Placed → Bool) (x : Placed) (xs : List Placed) (i : ℕ) → IsPartitionPoint (λ y. p y ≡ true) (λ y. p y ≡ false) (x ∷ xs) (suc i) → IsPartitionPoint (λ y. p y ≡ true) (λ y. p y ≡ false) xs i
rest-point p x xs i h = (λ k d low high. h.0 (suc k) d (omega arith) (omega (arith, high)), λ k d low high. h.1 (suc k) d (omega (arith, low)) (omega (arith, high)))

pub front_ending : (end : ℕ) (batches : List Placed) (i : ℕ) → i ≤ length batches → IsPartitionPoint (λ y. nat_lt y.last end ≡ true) (λ y. nat_lt y.last end ≡ false) batches i → take i batches ≡ ending_by end batches
front_ending end [] zero l h = refl
front_ending end [] (suc i) l h = absurd (omega (arith, l))
front_ending end (x ∷ xs) zero l h = let no : nat_lt x.last end ≡ false = h.1 0 x (omega arith) (omega arith) in rw no refl
front_ending end (x ∷ xs) (suc i) l h =
    let yes : nat_lt x.last end ≡ true = h.0 0 x (omega arith) (omega arith) in
    rw yes (ap (λ ys. x ∷ ys) (front_ending end xs i (omega (arith, l)) (rest-point (λ y. nat_lt y.last end) x xs i h)))

-- a number that isn't 0
pub pos_of : (n : ℕ) → (n == 0) ≡ false → 0 < n
pos_of zero e = absurd cc
pos_of (suc n) e = omega arith

-- the greatest timestamp with a batch more
latest_from_push : (ts : ℤ) (batches : List Placed) (batch : Placed) → latest_from ts (batches ++ batch ∷ []) ≡ int_max (latest_from ts batches) batch.max_ts
latest_from_push ts [] batch = refl
latest_from_push ts (x ∷ xs) batch = latest_from_push (int_max ts x.max_ts) xs batch

pub latest_push : (first : Bool) (batches : List Placed) (batch : Placed) → (first ≡ true → length batches ≡ 0) → (first ≡ false → 0 < length batches)
    → (if first then batch.max_ts else int_max (latest_ts batches) batch.max_ts) ≡ latest_ts (batches ++ batch ∷ [])
latest_push true [] batch none some = refl
latest_push true (x ∷ xs) batch none some = absurd (omega (arith, none refl))
latest_push false [] batch none some = absurd (omega (arith, some refl))
latest_push false (x ∷ xs) batch none some = sym (latest_from_push x.max_ts xs batch)

-- one batch more is a growing segment still
pub grows : (base interval : ℕ) (batches : List Placed) (batch : Placed) (index more : OffsetTable) (latest later : ℤ) → IsGrowing base interval batches index latest → end_after base batches ≤ batch.last
    → batch.last < base + 2 ^ 31 → size_after 0 batches < batch.to → batch.to < 2 ^ 31
    → more ≡ record index { entries = with_offset index.base interval index.entries (size_after 0 batches) batch.last } → later ≡ latest_ts (batches ++ batch ∷ []) → IsGrowing base interval (batches ++ batch ∷ []) more later
grows base interval batches batch index more latest later g up near some small is top =
    let end = end_append base batches (batch ∷ []) in
    let size = size_append 0 batches (batch ∷ []) in record {
      base_fits = g.base_fits;
      laid = laid_push base 0 batches batch g.laid up some;
      near = omega (arith, end, near);
      small = omega (arith, size, small);
      indexed = is ∙ (ap (λ (t : OffsetTable). grown t) g.indexed ∙ sym (index_push base interval batches batch));
      latest_is = top;
    }
  where
    grown : OffsetTable → OffsetTable
    grown t = record t { entries = with_offset t.base interval t.entries (size_after 0 batches) batch.last }
