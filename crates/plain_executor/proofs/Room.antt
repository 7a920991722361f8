-- How many batches fit a room, one after another.
use Rattle.std.proofs.Common.{◌≡◌, refl, sym, ℕ, ◌+◌, ◌-◌, ◌<◌, ◌≤◌, List, [], ◌∷◌, ◌++◌, take, drop, length, Some, true, false, arith, append_assoc}
use Rattle.std.specs.Prelude.{slice_get, nat_le}
use Rattle.std.proofs.lemmas.Bool.Decides.{nat_tests}
use Rattle.plain_log.specs.Fetch.{fitting}
use Rattle.plain_executor.proofs.Parts.{drop_at, take_at}

-- a batch that doesn't fit
pub fitting_none : (left : ℕ) (log : List (List ℕ)) (i : ℕ) (batch : List ℕ) → slice_get log i ≡ Some batch → left < length batch
    → fitting left (drop i log) ≡ []
fitting_none left log i batch at l =
    let t : nat_le (length batch) left ≡ false = grind (arith, nat_tests, l) in
    rw (drop_at log i batch at) (rw t refl)

-- a batch that fits
pub fitting_more : (left : ℕ) (log : List (List ℕ)) (i : ℕ) (batch : List ℕ) → slice_get log i ≡ Some batch → length batch ≤ left
    → take i log ++ fitting left (drop i log) ≡ take (i + 1) log ++ fitting (left - length batch) (drop (i + 1) log)
fitting_more left log i batch at l =
    let t : nat_le (length batch) left ≡ true = grind (arith, nat_tests, l) in
    let e : fitting left (drop i log) ≡ batch ∷ fitting (left - length batch) (drop (i + 1) log) =
    rw (drop_at log i batch at) (rw t refl) in
    rw (e, take_at log i batch at)
    (sym (append_assoc (take i log) (batch ∷ []) (fitting (left - length batch) (drop (i + 1) log))))
