-- What two logs have in common, reported from the end of the shorter one: a last batch that both don't have is left
-- out.
use Rattle.std.proofs.Common.{◌≡◌, refl, ap, ℕ, zero, suc, ◌-◌, ◌<◌, min, List, [], ◌∷◌, take, length, Some, true, false, arith}
use Rattle.std.specs.Prelude.{slice_get, bytes_eq}
use Rattle.std.proofs.lemmas.Slice.Eq.{bytes_eq-Decides}
use Rattle.plain_log.specs.Ends.{common}
use Rattle.plain_executor.specs.Change.{AreMatching}

-- up to the end of the shorter one they have all of it
pub common_within : (log other : List (List ℕ)) (k : ℕ) → k ≡ min (length log) (length other)
    → common log other ≡ common (take k log) (take k other)
common_within [] other zero e = refl
common_within [] other (suc k) e = absurd (omega arith)
common_within (v ∷ log) [] zero e = refl
common_within (v ∷ log) [] (suc k) e = absurd (omega arith)
common_within (v ∷ log) (w ∷ other) zero e = absurd (omega arith)
common_within (v ∷ log) (w ∷ other) (suc k) e = rw (common_within log other k (omega arith)) refl

-- two batches that differ are left out
pub common_less : (log other : List (List ℕ)) (k : ℕ) (v w : List ℕ) → slice_get log k ≡ Some v → slice_get other k ≡ Some w
    → bytes_eq v w ≡ false → common (take (suc k) log) (take (suc k) other) ≡ common (take k log) (take k other)
common_less [] other k v w a b e = absurd cc
common_less (x ∷ log) [] k v w a b e = absurd cc
common_less (x ∷ log) (y ∷ other) zero v w a b e =
    let left : x ≡ v = cc (a) in
    let right : y ≡ w = cc (b) in
    rw (left, right, e) refl
common_less (x ∷ log) (y ∷ other) (suc k) v w a b e = rw (common_less log other k v w a b e) refl

-- a log has all of itself
pub common_self : (log : List (List ℕ)) → common log log ≡ log
common_self [] = refl
common_self (v ∷ log) = rw ((bytes_eq-Decides v v).1 refl) (ap (λ z. v ∷ z) (common_self log))

-- the same batches and the same one after them
pub same_more : (log other : List (List ℕ)) (k : ℕ) (v : List ℕ) → slice_get log k ≡ Some v → slice_get other k ≡ Some v
    → take k log ≡ take k other → take (suc k) log ≡ take (suc k) other
same_more [] other k v a b e = absurd cc
same_more (x ∷ log) [] k v a b e = absurd cc
same_more (x ∷ log) (y ∷ other) zero v a b e = cc (a, b)
same_more (x ∷ log) (y ∷ other) (suc k) v a b e = cc (e, same_more log other k v a b (cc (e)))

-- last batches that differ are left out
pub common_before : (log other : List (List ℕ)) (count : ℕ) (v w : List ℕ) → 0 < count → slice_get log (count - 1) ≡ Some v
    → slice_get other (count - 1) ≡ Some w → bytes_eq v w ≡ false
    → common (take count log) (take count other) ≡ common (take (count - 1) log) (take (count - 1) other)
common_before log other zero v w p a b e = absurd (omega arith)
common_before log other (suc k) v w p a b e =
    let before : suc k - 1 ≡ k = omega arith in
    rw before (common_less log other k v w (rw before at a) (rw before at b) e)

-- logs that match and have the same last batch have all of it in common
pub common_up_to : (log other : List (List ℕ)) (count : ℕ) (v w : List ℕ) → AreMatching log other → 0 < count
    → slice_get log (count - 1) ≡ Some v → slice_get other (count - 1) ≡ Some w → bytes_eq v w ≡ true
    → common (take count log) (take count other) ≡ take count log
common_up_to log other zero v w h p a b e = absurd (omega arith)
common_up_to log other (suc k) v w h p a b e =
    let before : suc k - 1 ≡ k = omega arith in
    let at = rw before at a in
    let is : v ≡ w = (bytes_eq-Decides v w).0 e in
    let also : slice_get other k ≡ Some v = rw is (rw before at b) in
    let same = same_more log other k v at also (h k v at also) in
    rw (← same) (common_self (take (suc k) log))
