-- The indexes of a segment have an entry near each batch, and the greatest timestamp.
use Rattle.std.proofs.Common.{◌≡◌, ◌∙◌, ap, sym, refl, subst, ℕ, ◌+◌, ◌-◌, ◌≤◌, nat_lt, Bool, true, false, cond, ℤ, List, [], ◌∷◌, ◌++◌, length, Some, None, inl, inr, arith}
use Rattle.std.specs.Prelude.{int_lt, ◌≤ℤ◌}
use Rattle.std.specs.List.{Contains}
use Rattle.std.specs.declared.option.Option.{Option}
use Rattle.std.proofs.lemmas.Bool.{ltb-false}
use Rattle.std.proofs.lemmas.Int.{ints}
use Rattle.std.proofs.lemmas.List.Elements.{Contains-append_left, Contains-append_right}
use Rattle.std.proofs.lemmas.Option.{same_Some}
use Rattle.log_terms.specs.Batch.{max_ts_of}
use Rattle.log_terms.specs.Log.{joined}
use Rattle.sparse_index.specs.Entries.{last_of}
use Rattle.segment_file.specs.declared.placed.Placed.{Placed}
use Rattle.segment_file.specs.Index.{Marks, placed, placed_from, begun_at, is_due, time_of, with_time, raised, unmarked, marked, marked_by, index_of, time_index_of}
use Rattle.segment_file.specs.Density.{HasEntryNear}
use Rattle.segment_file.proofs.Placing.{placed_append, placed_size}
use Rattle.segment_file.proofs.Laying.{marked_append, marked_size, last_push}

-- what is last is among them
contains_one : {X : Type 0} (x : X) → Contains (x ∷ []) x
contains_one x = (0, omega arith, refl)

pub contains_last : {X : Type 0} (xs : List X) (x : X) → last_of xs ≡ Some x → Contains xs x
contains_last [] x e = absurd (cc)
contains_last (y ∷ []) x e = subst (λ z. Contains (y ∷ []) z) (same_Some y x e) (contains_one y)
contains_last (y ∷ z ∷ xs) x e = Contains-append_right (y ∷ []) (z ∷ xs) x (contains_last (z ∷ xs) x e)

-- no entry begins after the bytes so far
abbrev pub IsLow : Marks → Type 0
IsLow marks = begun_at (last_of marks.entries) ≤ marks.size

low_step : (base interval : ℕ) (marks : Marks) (one : Placed) → marks.size ≤ one.to → IsLow marks → IsLow (marked base interval marks one)
low_step base interval marks one up low = go (is_due interval marks.entries marks.size)
  where
    go : (t : Bool) → begun_at (last_of (cond t (marks.entries ++ (one.last - base, marks.size) ∷ []) marks.entries)) ≤ one.to
    go true = rw (last_push marks.entries (one.last - base, marks.size)) up
    go false = omega (arith, low, up)

pub low_all : (base interval : ℕ) (marks : Marks) (batches : List (List ℕ)) → IsLow marks → IsLow (marked_by base interval marks (placed_from marks.size batches))
low_all base interval marks [] low = low
low_all base interval marks (batch ∷ batches) low =
    low_all base interval (marked base interval marks (placed marks.size batch)) batches
    (low_step base interval marks (placed marks.size batch) (omega arith) low)

-- a batch has an entry near, as soon as it is marked
near_step : (base interval : ℕ) (marks : Marks) (one : Placed) → IsLow marks → HasEntryNear interval (marked base interval marks one).entries marks.size
near_step base interval marks one low = go (is_due interval marks.entries marks.size) refl
  where
    old : (last : Option (ℕ × ℕ)) → last_of marks.entries ≡ last → begun_at last ≤ marks.size
        → nat_lt interval (marks.size - begun_at last) ≡ false → HasEntryNear interval marks.entries marks.size
    old None e l due = let low = ltb-false interval (marks.size - 0) due in inl (omega (arith, low))
    old (Some entry) e l due =
        let low = ltb-false interval (marks.size - entry.1) due in
        inr (entry, (contains_last marks.entries entry e, (l, omega (arith, l, low))))

    go : (t : Bool) → is_due interval marks.entries marks.size ≡ t
        → HasEntryNear interval (cond t (marks.entries ++ (one.last - base, marks.size) ∷ []) marks.entries) marks.size
    go true e =
        inr (
          (one.last - base, marks.size),
          (Contains-append_right marks.entries _ _ (contains_one (one.last - base, marks.size)), (omega arith, omega arith)),
        )
    go false e = old (last_of marks.entries) refl low e

-- and keeps it
near_append : (bytes at : ℕ) (entries more : List (ℕ × ℕ)) → HasEntryNear bytes entries at → HasEntryNear bytes (entries ++ more) at
near_append bytes at entries more (inl first) = inl first
near_append bytes at entries more (inr near) = inr (near.0, (Contains-append_left entries more near.0 near.1.0, near.1.1))

near_kept : (base interval at : ℕ) (marks : Marks) (batches : List Placed) → HasEntryNear interval marks.entries at → HasEntryNear interval (marked_by base interval marks batches).entries at
near_kept base interval at marks [] near = near
near_kept base interval at marks (one ∷ batches) near =
    near_kept base interval at (marked base interval marks one) batches (go (is_due interval marks.entries marks.size))
  where
    go : (t : Bool) → HasEntryNear interval (cond t (marks.entries ++ (one.last - base, marks.size) ∷ []) marks.entries) at
    go true = near_append interval at marks.entries _ near
    go false = near

-- a batch among others, as it is marked
parted_marks : (base interval : ℕ) (front rest : List (List ℕ)) (batch : List ℕ)
    → marked_by base interval (unmarked base) (placed_from 0 (front ++ batch ∷ rest))
    ≡ marked_by base interval
    (marked base interval (marked_by base interval (unmarked base) (placed_from 0 front)) (placed (0 + length (joined front)) batch))
    (placed_from (0 + length (joined front) + length batch) rest)
parted_marks base interval front rest batch =
    ap (marked_by base interval (unmarked base)) (placed_append 0 front (batch ∷ rest))
    ∙ marked_append base interval (unmarked base) (placed_from 0 front) (placed_from (0 + length (joined front)) (batch ∷ rest))

pub each_near : (base interval : ℕ) (front rest : List (List ℕ)) (batch : List ℕ)
    → HasEntryNear interval (index_of base interval (placed_from 0 (front ++ batch ∷ rest))).entries (length (joined front))
each_near base interval front rest batch =
    let marks = marked_by base interval (unmarked base) (placed_from 0 front) in
    let one = placed (0 + length (joined front)) batch in
    let size : marks.size ≡ 0 + length (joined front) = marked_size base interval (unmarked base) (placed_from 0 front) ∙ placed_size 0 front in
    let place : marks.size ≡ length (joined front) = omega (arith, size) in
    let near = near_step base interval marks one (low_all base interval (unmarked base) front (omega arith)) in
    subst (λ (m : Marks). HasEntryNear interval m.entries (length (joined front))) (sym (parted_marks base interval front rest batch))
    (near_kept base interval (length (joined front)) (marked base interval marks one) (placed_from (0 + length (joined front) + length batch) rest)
    (subst (λ (n : ℕ). HasEntryNear interval (marked base interval marks one).entries n) place near))

-- the greatest timestamp is at or above each
pub above_old : (top : ℤ × ℕ) (one : Placed) → top.0 ≤ℤ (raised top one).0
above_old top one = go (int_lt top.0 one.max_ts) refl
  where
    go : (t : Bool) → int_lt top.0 one.max_ts ≡ t → top.0 ≤ℤ (cond t (one.max_ts, one.last) top).0
    go true e = grind (arith, ints)
    go false e = omega (arith, ints)

pub above_new : (top : ℤ × ℕ) (one : Placed) → one.max_ts ≤ℤ (raised top one).0
above_new top one = go (int_lt top.0 one.max_ts) refl
  where
    go : (t : Bool) → int_lt top.0 one.max_ts ≡ t → one.max_ts ≤ℤ (cond t (one.max_ts, one.last) top).0
    go true e = omega (arith, ints)
    go false e = grind (arith, ints)

pub up_through : (a b c : ℤ) → a ≤ℤ b → b ≤ℤ c → a ≤ℤ c
up_through a b c h k = omega (arith, ints, h, k)

above_all : (base interval : ℕ) (ts : ℤ) (marks : Marks) (batches : List Placed) → ts ≤ℤ marks.top.0 → ts ≤ℤ (marked_by base interval marks batches).top.0
above_all base interval ts marks [] up = up
above_all base interval ts marks (one ∷ batches) up =
    above_all base interval ts (marked base interval marks one) batches (up_through ts marks.top.0 (raised marks.top one).0 up (above_old marks.top one))

-- the last time entry, with that of the greatest timestamp
pub top_closed : (base : ℕ) (moments : List (ℤ × ℕ)) (top : ℤ × ℕ) → top.0 ≤ℤ time_of (last_of (with_time base moments top))
top_closed base moments top = go (int_lt (time_of (last_of moments)) top.0) refl
  where
    go : (t : Bool) → int_lt (time_of (last_of moments)) top.0 ≡ t → top.0 ≤ℤ time_of (last_of (cond t (moments ++ (top.0, top.1 - base) ∷ []) moments))
    go true e = rw (last_push moments (top.0, top.1 - base)) (omega (arith, ints))
    go false e = grind (arith, ints)

pub each_timed : (base interval : ℕ) (front rest : List (List ℕ)) (batch : List ℕ)
    → max_ts_of batch ≤ℤ time_of (last_of (time_index_of base interval (placed_from 0 (front ++ batch ∷ rest))).entries)
each_timed base interval front rest batch =
    let marks = marked_by base interval (unmarked base) (placed_from 0 front) in
    let one = placed (0 + length (joined front)) batch in
    let whole = marked_by base interval (unmarked base) (placed_from 0 (front ++ batch ∷ rest)) in
    let up = above_all base interval (max_ts_of batch) (marked base interval marks one) (placed_from (0 + length (joined front) + length batch) rest) (above_new marks.top one) in
    up_through (max_ts_of batch) whole.top.0 _
    (subst (λ (m : Marks). max_ts_of batch ≤ℤ m.top.0) (sym (parted_marks base interval front rest batch)) up)
    (top_closed base whole.moments whole.top)
