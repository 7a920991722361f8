-- What is read for a run has the run's batches, and the head of the one that would pass the limit.
use Rattle.std.proofs.Common.{◌≡◌, ◌≢◌, ◌⊎◌, ◌∙◌, ap, sym, refl, subst, inl, inr, ℕ, zero, suc, ◌+◌, ◌<◌, ◌≤◌, min, nat_lt, nat_le, Bool, true, false, List, [], ◌∷◌, ◌++◌, length, take, drop, arith, length-append, lt-ltb, ltb-true}
use Rattle.std.specs.Prelude.{◌&&◌}
use Rattle.std.proofs.lemmas.Bool.Decides.{nat_tests}
use Rattle.log_terms.specs.Batch.{last_of}
use Rattle.log_terms.specs.Log.{joined, IsConsecutive, end_from}
use Rattle.log_terms.proofs.Logs.{end_above}
use Rattle.segment_file.specs.declared.placed.Placed.{Placed}
use Rattle.segment_file.specs.Index.{placed_from}
use Rattle.segment_file.specs.Growing.{Grown, BeginsSearch, end_after, ending_by}
use Rattle.segment_file.specs.Reach.{run_reach, reach_from}
use Rattle.segment_file.specs.Run.{Fits}
use Rattle.segment_file.proofs.Joining.{consecutive_parts}
use Rattle.local_log.specs.Reading.{position_of}

-- a list is its front and what follows
pub ending_parts : (n : ℕ) (bs : List Placed) → bs ≡ ending_by n bs ++ drop (length (ending_by n bs)) bs
ending_parts n [] = refl
ending_parts n (b ∷ bs) = go (nat_lt b.last n) refl (ending_parts n bs)
  where
    go : (t : Bool) → nat_lt b.last n ≡ t → bs ≡ ending_by n bs ++ drop (length (ending_by n bs)) bs → b ∷ bs ≡ ending_by n (b ∷ bs) ++ drop (length (ending_by n (b ∷ bs))) (b ∷ bs)
    go true t more = rw t (ap (λ (l : List Placed). b ∷ l) more)
    go false t more = rw t refl

pub ending_low : (first n : ℕ) (bs : List Placed) → first ≤ n → end_after first (ending_by n bs) ≤ n
ending_low first n [] le = le
ending_low first n (b ∷ bs) le = go (nat_lt b.last n) refl (ending_low (b.last + 1) n bs)
  where
    go : (t : Bool) → nat_lt b.last n ≡ t → (b.last + 1 ≤ n → end_after (b.last + 1) (ending_by n bs) ≤ n) → end_after first (ending_by n (b ∷ bs)) ≤ n
    go true t more = let h : b.last < n = ltb-true b.last n t in rw t (more (omega (arith, h)))
    go false t more = rw t le

-- a read from the batch on that holds the offset misses none from there on
abbrev pub begins_there : (g : Grown) (offset position : ℕ) → position ≡ position_of g offset → BeginsSearch g.base g.batches offset position
begins_there g offset position is = record {
  front = ending_by offset g.batches;
  rest = drop (length (ending_by offset g.batches)) g.batches;
  parts = ending_parts offset g.batches;
  place = sym is;
  before = λ le. ending_low g.base offset g.batches le;
}

-- the first after those that end by an offset holds it
pub first_holds : (n : ℕ) (bs : List Placed) (b : Placed) (more : List Placed) → drop (length (ending_by n bs)) bs ≡ b ∷ more → nat_lt b.last n ≡ false
first_holds n [] b more e = absurd (cc (e))
first_holds n (x ∷ bs) b more e = go (nat_lt x.last n) refl (first_holds n bs b more)
  where
    go : (t : Bool) → nat_lt x.last n ≡ t → (drop (length (ending_by n bs)) bs ≡ b ∷ more → nat_lt b.last n ≡ false) → nat_lt b.last n ≡ false
    go true t others = others (rw t at e)
    go false t others = let same : x ≡ b = cc (rw t at e) in subst (λ (y : Placed). nat_lt y.last n ≡ false) same t

-- what is needed doesn't end before it begins
run_up : (bound top end at : ℕ) (bs : List (List ℕ)) → at ≤ run_reach bound top end at (placed_from at bs)
run_up bound top end at [] = omega arith
run_up bound top end at (b ∷ bs) = go (nat_lt (last_of b) bound && nat_le (at + length b) top) refl (run_up bound top (last_of b + 1) (at + length b) bs)
  where
    ended : (t : Bool) → (nat_lt (last_of b) bound && nat_le (at + length b) top) ≡ false → nat_lt end bound ≡ t → at ≤ run_reach bound top end at (placed_from at (b ∷ bs))
    ended true e lt = rw (e, lt) (omega arith)
    ended false e lt = rw (e, lt) (omega arith)

    go : (t : Bool) → (nat_lt (last_of b) bound && nat_le (at + length b) top) ≡ t → at + length b ≤ run_reach bound top (last_of b + 1) (at + length b) (placed_from (at + length b) bs) → at ≤ run_reach bound top end at (placed_from at (b ∷ bs))
    go true e more = rw e (omega (arith, more))
    go false e more = ended (nat_lt end bound) e refl

-- up to there the next batch is needed, or the head of the one that passes the top
abbrev pub Needs : ℕ → ℕ → List ℕ → ℕ → Type 0
Needs top at m to = (at + length m ≤ to) ⊎ ((top < at + length m) × (at + 61 ≤ to))

both_true : (a b : Bool) → a ≡ true → b ≡ true → (a && b) ≡ true
both_true true b h k = k
both_true false b h k = absurd (cc (h))

one_false : (a b : Bool) → a ≡ true → (a && b) ≡ false → b ≡ false
one_false true b h k = k
one_false false b h k = absurd (cc (h))

-- after batches of a run
run_needs : (bound top end at : ℕ) (xs : List (List ℕ)) (m : List ℕ) (ms : List (List ℕ)) → IsConsecutive end (xs ++ m ∷ ms) → end_from end xs < bound → last_of m + 1 ≤ bound → (xs ≢ [] → at + length (joined xs) ≤ top)
    → Needs top (at + length (joined xs)) m (run_reach bound top end at (placed_from at (xs ++ m ∷ ms)))
run_needs bound top end at [] m ms c lt le fit = go (nat_lt (last_of m) bound && nat_le (at + length m) top) refl
  where
    zero_more : at + 0 ≡ at
    zero_more = omega arith

    last : nat_lt (last_of m) bound ≡ true
    last = lt-ltb (last_of m) bound (omega (arith, le))

    snapshot : nat_lt end bound ≡ true
    snapshot = lt-ltb end bound lt

    go : (t : Bool) → (nat_lt (last_of m) bound && nat_le (at + length m) top) ≡ t → Needs top (at + 0) m (run_reach bound top end at (placed_from at (m ∷ ms)))
    go true e = let up = run_up bound top (last_of m + 1) (at + length m) ms in rw (zero_more, e) (inl up)
    go false e =
        let no : nat_le (at + length m) top ≡ false = one_false (nat_lt (last_of m) bound) (nat_le (at + length m) top) last e in
        let over : top < at + length m = grind (arith, nat_tests, no) in
        rw (zero_more, e, snapshot) (inr (over, omega arith))
run_needs bound top end at (x ∷ xs) m ms c lt le fit =
    let size = length-append x (joined xs) in
    let all : at + length (joined (x ∷ xs)) ≤ top = fit (λ e. absurd (cc (e))) in
    let up = end_above (last_of x + 1) xs (consecutive_parts (last_of x + 1) xs (m ∷ ms) c.1).0 in
    let one : nat_lt (last_of x) bound ≡ true = lt-ltb (last_of x) bound (omega (arith, up, lt)) in
    let low : at + length x ≤ top = omega (arith, all, size) in
    let two : nat_le (at + length x) top ≡ true = grind (arith, nat_tests, low) in
    let both = both_true (nat_lt (last_of x) bound) (nat_le (at + length x) top) one two in
    let same : at + length (joined (x ∷ xs)) ≡ at + length x + length (joined xs) = omega (arith, size) in
    rw (both, same) (run_needs bound top (last_of x + 1) (at + length x) xs m ms c.1 lt le (λ some. omega (arith, all, size)))

-- bytes are enough for the batch after these, or for its head where it would pass the limit
abbrev pub Enough : ℕ → List (List ℕ) → List ℕ → ℕ → Type 0
Enough limit xs m most =
    (length (joined xs) + length m ≤ most)
    ⊎ ((xs ≢ []) × (limit < length (joined xs) + length m) × (length (joined xs) + 61 ≤ most))

-- so it is from a run's first batch on
pub enough : (bound top limit n position most : ℕ) (latter xs : List (List ℕ)) (m : List ℕ) (ms : List (List ℕ)) → latter ≡ xs ++ m ∷ ms → IsConsecutive n latter → end_from n xs < bound → last_of m + 1 ≤ bound → Fits limit xs
    → top ≡ min (position + limit) 18446744073709551615 → position + length (joined latter) < 18446744073709551615 → position + most ≡ reach_from bound top position (placed_from position latter) → Enough limit xs m most
enough bound top limit n position most latter [] m ms parts c lt le fits is small reach =
    let up = run_up bound top (last_of m + 1) (position + length m) ms in
    let to : position + most ≡ run_reach bound top (last_of m + 1) (position + length m) (placed_from (position + length m) ms) = reach ∙ ap (λ (l : List (List ℕ)). reach_from bound top position (placed_from position l)) parts in
    inl (omega (arith, up, to))
enough bound top limit n position most latter (x ∷ xs) m ms parts c lt le fits is small reach = go (run_needs bound top (last_of x + 1) (position + length x) xs m ms c'.1 lt le (fit xs fits (omega (arith, small, all))))
  where
    c' : IsConsecutive n (x ∷ xs ++ m ∷ ms)
    c' = subst (IsConsecutive n) parts c

    size : length (joined (x ∷ xs)) ≡ length x + length (joined xs)
    size = length-append x (joined xs)

    all : length (joined latter) ≡ length (joined (x ∷ xs)) + (length m + length (joined ms))
    all = ap (λ (l : List (List ℕ)). length (joined l)) parts ∙ sizes (x ∷ xs)
      where
        sizes : (ys : List (List ℕ)) → length (joined (ys ++ m ∷ ms)) ≡ length (joined ys) + (length m + length (joined ms))
        sizes [] = let one = length-append m (joined ms) in omega (arith, one)
        sizes (y ∷ ys) = let more = sizes ys in let one = length-append y (joined (ys ++ m ∷ ms)) in let two = length-append y (joined ys) in omega (arith, more, one, two)

    fit : (ys : List (List ℕ)) → Fits limit (x ∷ ys) → position + length (joined (x ∷ ys)) < 18446744073709551615 → ys ≢ [] → position + length x + length (joined ys) ≤ top
    fit [] f low some = absurd (some refl)
    fit (y ∷ ys) f low some = let both = length-append x (joined (y ∷ ys)) in omega (arith, f, both, is, low)

    to : position + most ≡ run_reach bound top (last_of x + 1) (position + length x) (placed_from (position + length x) (xs ++ m ∷ ms))
    to = reach ∙ ap (λ (l : List (List ℕ)). reach_from bound top position (placed_from position l)) parts

    go : Needs top (position + length x + length (joined xs)) m (run_reach bound top (last_of x + 1) (position + length x) (placed_from (position + length x) (xs ++ m ∷ ms))) → Enough limit (x ∷ xs) m most
    go (inl whole) = inl (omega (arith, whole, to, size))
    go (inr head) = inr (λ e. absurd (cc (e)), omega (arith, head.0, is, small, all, size), omega (arith, head.1, to, size))

-- a front that is as long as asked
pub take_long : (k n : ℕ) (xs : List ℕ) → k ≤ n → k ≤ length xs → k ≤ length (take n xs)
take_long zero n xs le long = omega arith
take_long (suc k) zero xs le long = absurd (omega (arith, le))
take_long (suc k) (suc n) [] le long = absurd (omega (arith, long))
take_long (suc k) (suc n) (x ∷ xs) le long = let more = take_long k n xs (omega (arith, le)) (omega (arith, long)) in omega (arith, more)

-- a list that begins another one's front is its front
pub front_whole : (xs ys zs ws : List ℕ) → xs ++ ys ≡ zs ++ ws → length zs ≤ length xs → (more : List ℕ) × (xs ≡ zs ++ more)
front_whole xs ys [] ws e le = (xs, refl)
front_whole [] ys (z ∷ zs) ws e le = absurd (omega (arith, le))
front_whole (x ∷ xs) ys (z ∷ zs) ws e le =
    let same : x ≡ z = cc (e) in
    let others : xs ++ ys ≡ zs ++ ws = cc (e) in
    let more = front_whole xs ys zs ws others (omega (arith, le)) in
    (more.0, ap (λ (y : ℕ). y ∷ xs) same ∙ ap (λ (l : List ℕ). z ∷ l) more.1)
