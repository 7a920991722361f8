-- Segments that end at or below an offset come first.
use Rattle.std.proofs.Common.{◌≡◌, refl, ℕ, zero, suc, ◌<◌, ◌≤◌, Bool, true, false, List, [], ◌∷◌, ◌++◌, length, arith, nat_le, nat_lt, add-one, get_or}
use Rattle.std.specs.List.{slice_get}
use Rattle.std.proofs.lemmas.Bool.Decides.{nat_tests}
use Rattle.std.specs.List.Sorted.{IsNonDecreasingBy, IsPartitionPoint}
use Rattle.std.proofs.lemmas.List.Sorted.{IsNonDecreasingBy-from_all_adjacent}
use Rattle.segment_file.specs.Growing.{Grown}
use Rattle.segment_file.proofs.Laying.{end_up}
use Rattle.log_steps.specs.Fronts.{Each}
use Rattle.local_log.specs.Stored.{end_of, AreChained}
use Rattle.local_log.specs.Listing.{IsLaidOut}
use Rattle.local_log.specs.Reading.{first_past}
use Rattle.local_log.specs.Cutting.{closed_by}

ends-adjacent : (first : ℕ) (gs : List Grown) (a : Grown) (k : ℕ) (d : Grown) → AreChained first (gs ++ a ∷ []) → Each IsLaidOut gs → suc k < length gs → end_of (get_or gs k d) ≤ end_of (get_or gs (suc k) d)
ends-adjacent first [] a k d chained laid lt = absurd (omega (arith, lt))
ends-adjacent first (g ∷ []) a k d chained laid lt = absurd (omega (arith, lt))
ends-adjacent first (g ∷ h ∷ gs) a zero d chained laid lt =
    let up = end_up h.base 0 h.batches laid.1.0.laid in
    omega (arith, up, chained.1.0)
ends-adjacent first (g ∷ h ∷ gs) a (suc k) d chained laid lt = ends-adjacent (end_of g) (h ∷ gs) a k d chained.1 laid.1 (omega (arith, lt))

pub ends-rise : (first : ℕ) (gs : List Grown) (a : Grown) → AreChained first (gs ++ a ∷ []) → Each IsLaidOut gs → IsNonDecreasingBy end_of gs
ends-rise first gs a chained laid = IsNonDecreasingBy-from_all_adjacent end_of gs (λ k d l. rw add-one (ends-adjacent first gs a k d chained laid (omega (arith, l))))

pub rest-point : {X : Type 0} (p : X → Bool) (x : X) (xs : List X) (i : ℕ) → IsPartitionPoint (λ y. p y ≡ true) (λ y. p y ≡ false) (x ∷ xs) (suc i) → IsPartitionPoint (λ y. p y ≡ true) (λ y. p y ≡ false) xs i
rest-point p x xs i h = (λ k d low high. h.0 (suc k) d (omega arith) (omega (arith, high)), λ k d low high. h.1 (suc k) d (omega (arith, low)) (omega (arith, high)))

pub count_ending : (end : ℕ) (gs : List Grown) (i : ℕ) → i ≤ length gs → IsPartitionPoint (λ y. nat_le (end_of y) end ≡ true) (λ y. nat_le (end_of y) end ≡ false) gs i → i ≡ length (closed_by end gs)
count_ending end [] zero l h = refl
count_ending end [] (suc i) l h = absurd (omega (arith, l))
count_ending end (x ∷ xs) zero l h = let no : nat_le (end_of x) end ≡ false = h.1 0 x (omega arith) (omega arith) in rw no refl
count_ending end (x ∷ xs) (suc i) l h =
    let yes : nat_le (end_of x) end ≡ true = h.0 0 x (omega arith) (omega arith) in
    rw yes (let more = count_ending end xs i (omega (arith, l)) (rest-point (λ y. nat_le (end_of y) end) x xs i h) in omega (arith, more))

-- and the next one is the first that ends past it
pub first_behind : (offset : ℕ) (gs : List Grown) → slice_get gs (length (closed_by offset gs)) ≡ first_past offset gs
first_behind offset [] = refl
first_behind offset (g ∷ gs) = go (nat_lt offset (end_of g)) refl (first_behind offset gs)
  where
    go : (t : Bool) → nat_lt offset (end_of g) ≡ t → slice_get gs (length (closed_by offset gs)) ≡ first_past offset gs → slice_get (g ∷ gs) (length (closed_by offset (g ∷ gs))) ≡ first_past offset (g ∷ gs)
    go true t more = let no : nat_le (end_of g) offset ≡ false = grind (arith, nat_tests, t) in rw (t, no) refl
    go false t more = let yes : nat_le (end_of g) offset ≡ true = grind (arith, nat_tests, t) in rw (t, yes) more
